-- Worked rows: what binds as before at the moved places, and what does not where an offence stands.
use Rattle.std.proofs.Common.{ℕ, ◌≡◌, Bool, true, false, ◌||◌, ◌==◌, List, [], ◌∷◌, length, Option, None, Some, Ok, refl}
use Rattle.std.specs.Prelude.{Result, codes}
use Rattle.std.specs.List.{list_all}
use Rattle.cs_base.specs.Token.{Token}
use Rattle.cs_base.specs.declared.tokens.Kind.{Kind}
use Rattle.cs_base.specs.declared.tokens.Kind.TheVariants.{Ident, Number, Punct}
use Rattle.c99_tree.specs.Tree.{Forest, none, token, node, Node, node_of}
use Rattle.c99_tree.specs.declared.production.Production.{Production}
use Rattle.c99_tree.specs.declared.production.Production.TheVariants.{TranslationUnit, External, ExtRest, ExtTail, FunBody, Specs, Main, Mod, Word, StructSpec, SuRest, Members, Member as MemberNode, Mdecl, Declarator, Pointer, Direct, Suffix, Bound as BoundNode, Params, Param, Pdecl, Pdirect, TypeName, Adecl, Adirect, Init, Cast, CastRest, Unary, SizeRest, Primary, Post, Args, BlockItem, Statement}
use Rattle.c_types.specs.declared.declarations.Fault.{Fault}
use Rattle.scope_bind.specs.Bound.{Bound, binding_of}
use Rattle.scope_bind.specs.Names.{entity_at}
use Rattle.scope_bind.specs.Walk.{walked}
use Rattle.list_cuts.specs.Cuts.{numbers, arranged, items_of, woven, gaps_of, span_of, moved}
use Rattle.reordered_tree_laws.specs.Reordered.{reordered}
use Rattle.reordered_tree_laws.specs.Cuts.{cut_in}

abbrev tk : Kind → List ℕ → Token
tk k t = record { kind = k; text = t; origins = []; gap = false; at = record { file = 0; at = 0 }; line = 0; direct = true }

abbrev n : Production → ℕ → ℕ → Forest → Forest → Forest
n p a f under rest = node (record { production = p; alternative = a }) f under rest

abbrev unit : Forest → Node
unit under = node_of (record { production = TranslationUnit; alternative = 1 }) 0 under

abbrev is_moved : (ℕ → ℕ) → Option ℕ → Option ℕ → Bool
is_moved m None None = true
is_moved m (Some e) (Some d) = m e == d
is_moved m _ _ = false

-- each token names at its place anew what it named, where that is now
abbrev names_moved : (ℕ → ℕ) → ℕ → Result Bound Fault → Result Bound Fault → Bool
names_moved m count (Ok b) (Ok c) = list_all (λ i. is_moved m (entity_at b.names i) (entity_at c.names (m i))) (numbers 0 count)
names_moved m count _ _ = false

-- the text in the new order binds so
abbrev binds_moved : List ℕ → (ℕ → Bool) → List Token → Node → Bool
binds_moved order lists toks tree =
    names_moved (moved order (cut_in lists tree) (length toks)) (length toks) (binding_of toks tree)
    (binding_of (arranged order (cut_in lists tree) toks) (reordered order lists tree))

-- int f(struct { int b; } *a, int b);: members of a structure are no parameters: kept
abbrev pub kept-text : List Token
kept-text = (tk Ident (codes "int") ∷ tk Ident (codes "f") ∷ tk Punct (codes "(") ∷ tk Ident (codes "struct") ∷ tk Punct (codes "{") ∷ tk Ident (codes "int") ∷ tk Ident (codes "b") ∷ tk Punct (codes ";") ∷ tk Punct (codes "}") ∷ tk Punct (codes "*") ∷ tk Ident (codes "a") ∷ tk Punct (codes ",") ∷ tk Ident (codes "int") ∷ tk Ident (codes "b") ∷ tk Punct (codes ")") ∷ tk Punct (codes ";") ∷ [])

abbrev pub kept-tree : Node
kept-tree = unit (n External 2 0 (n Specs 1 0 (n Main 1 0 (n Word 4 0 (token 0 none) none) none) (n ExtRest 2 1 (n Declarator 1 1 (n Direct 1 1 (token 1 (n Suffix 2 2 (token 2 (n Params 2 3 (n Param 1 3 (n Specs 1 3 (n Main 2 3 (n StructSpec 1 3 (token 3 (n SuRest 2 4 (token 4 (n Members 1 5 (n MemberNode 2 5 (n Specs 1 5 (n Main 1 5 (n Word 4 5 (token 5 none) none) none) (n Mdecl 2 6 (n Declarator 1 6 (n Direct 1 6 (token 6 none) none) none) (token 7 none))) none) (token 8 none))) none)) none) none) (n Pdecl 1 9 (n Pointer 1 9 (token 9 none) (n Pdirect 1 10 (token 10 none) none)) none)) (token 11 (n Param 1 12 (n Specs 1 12 (n Main 1 12 (n Word 4 12 (token 12 none) none) none) (n Pdecl 2 13 (n Pdirect 1 13 (token 13 none) none) none)) none))) (token 14 none))) none)) none) (n ExtTail 2 15 (token 15 none) none)) none)) none)

kept : binds_moved (2 ∷ 1 ∷ []) (λ k. (k == 2)) kept-text kept-tree ≡ true
unfolding binding_of walked arranged items_of woven gaps_of span_of numbers
kept = refl

-- int f(int a, int b); int g(int c) { return f(g(3), f(c, g(c))); }: calls in arguments of calls
abbrev pub nested-text : List Token
nested-text = (tk Ident (codes "int") ∷ tk Ident (codes "f") ∷ tk Punct (codes "(") ∷ tk Ident (codes "int") ∷ tk Ident (codes "a") ∷ tk Punct (codes ",") ∷ tk Ident (codes "int") ∷ tk Ident (codes "b") ∷ tk Punct (codes ")") ∷ tk Punct (codes ";") ∷ tk Ident (codes "int") ∷ tk Ident (codes "g") ∷ tk Punct (codes "(") ∷ tk Ident (codes "int") ∷ tk Ident (codes "c") ∷ tk Punct (codes ")") ∷ tk Punct (codes "{") ∷ tk Ident (codes "return") ∷ tk Ident (codes "f") ∷ tk Punct (codes "(") ∷ tk Ident (codes "g") ∷ tk Punct (codes "(") ∷ tk Number (codes "3") ∷ tk Punct (codes ")") ∷ tk Punct (codes ",") ∷ tk Ident (codes "f") ∷ tk Punct (codes "(") ∷ tk Ident (codes "c") ∷ tk Punct (codes ",") ∷ tk Ident (codes "g") ∷ tk Punct (codes "(") ∷ tk Ident (codes "c") ∷ tk Punct (codes ")") ∷ tk Punct (codes ")") ∷ tk Punct (codes ")") ∷ tk Punct (codes ";") ∷ tk Punct (codes "}") ∷ [])

abbrev pub nested-tree : Node
nested-tree = unit (n External 2 0 (n Specs 1 0 (n Main 1 0 (n Word 4 0 (token 0 none) none) none) (n ExtRest 2 1 (n Declarator 1 1 (n Direct 1 1 (token 1 (n Suffix 2 2 (token 2 (n Params 2 3 (n Param 1 3 (n Specs 1 3 (n Main 1 3 (n Word 4 3 (token 3 none) none) none) (n Pdecl 2 4 (n Pdirect 1 4 (token 4 none) none) none)) (token 5 (n Param 1 6 (n Specs 1 6 (n Main 1 6 (n Word 4 6 (token 6 none) none) none) (n Pdecl 2 7 (n Pdirect 1 7 (token 7 none) none) none)) none))) (token 8 none))) none)) none) (n ExtTail 2 9 (token 9 none) none)) none)) (n External 2 10 (n Specs 1 10 (n Main 1 10 (n Word 4 10 (token 10 none) none) none) (n ExtRest 2 11 (n Declarator 1 11 (n Direct 1 11 (token 11 (n Suffix 2 12 (token 12 (n Params 2 13 (n Param 1 13 (n Specs 1 13 (n Main 1 13 (n Word 4 13 (token 13 none) none) none) (n Pdecl 2 14 (n Pdirect 1 14 (token 14 none) none) none)) none) (token 15 none))) none)) none) (n ExtTail 1 16 (n FunBody 1 16 (token 16 (n BlockItem 3 17 (n Statement 13 17 (token 17 (n Unary 3 18 (n Primary 1 18 (token 18 none) (n Post 2 19 (token 19 (n Args 1 20 (n Unary 3 20 (n Primary 1 20 (token 20 none) (n Post 2 21 (token 21 (n Args 1 22 (n Primary 2 22 (token 22 none) none) (token 23 none))) none)) (token 24 (n Unary 3 25 (n Primary 1 25 (token 25 none) (n Post 2 26 (token 26 (n Args 1 27 (n Primary 1 27 (token 27 none) (token 28 (n Unary 3 29 (n Primary 1 29 (token 29 none) (n Post 2 30 (token 30 (n Args 1 31 (n Primary 1 31 (token 31 none) none) (token 32 none))) none)) none))) (token 33 none))) none)) none))) (token 34 none))) none)) (token 35 none))) none) (token 36 none))) none) none)) none)) none))

nested : binds_moved (2 ∷ 1 ∷ []) (λ k. (k == 2) || ((k == 19) || ((k == 26)))) nested-text nested-tree ≡ true
unfolding binding_of walked arranged items_of woven gaps_of span_of numbers
nested = refl

-- int f(int (*g)(int a), int a) { return g(a); }: names of inner parameters
abbrev pub prototypes-text : List Token
prototypes-text = (tk Ident (codes "int") ∷ tk Ident (codes "f") ∷ tk Punct (codes "(") ∷ tk Ident (codes "int") ∷ tk Punct (codes "(") ∷ tk Punct (codes "*") ∷ tk Ident (codes "g") ∷ tk Punct (codes ")") ∷ tk Punct (codes "(") ∷ tk Ident (codes "int") ∷ tk Ident (codes "a") ∷ tk Punct (codes ")") ∷ tk Punct (codes ",") ∷ tk Ident (codes "int") ∷ tk Ident (codes "a") ∷ tk Punct (codes ")") ∷ tk Punct (codes "{") ∷ tk Ident (codes "return") ∷ tk Ident (codes "g") ∷ tk Punct (codes "(") ∷ tk Ident (codes "a") ∷ tk Punct (codes ")") ∷ tk Punct (codes ";") ∷ tk Punct (codes "}") ∷ [])

abbrev pub prototypes-tree : Node
prototypes-tree = unit (n External 2 0 (n Specs 1 0 (n Main 1 0 (n Word 4 0 (token 0 none) none) none) (n ExtRest 2 1 (n Declarator 1 1 (n Direct 1 1 (token 1 (n Suffix 2 2 (token 2 (n Params 2 3 (n Param 1 3 (n Specs 1 3 (n Main 1 3 (n Word 4 3 (token 3 none) none) none) (n Pdecl 2 4 (n Pdirect 2 4 (token 4 (n Pdecl 1 5 (n Pointer 1 5 (token 5 none) (n Pdirect 1 6 (token 6 none) none)) (token 7 (n Suffix 2 8 (token 8 (n Params 2 9 (n Param 1 9 (n Specs 1 9 (n Main 1 9 (n Word 4 9 (token 9 none) none) none) (n Pdecl 2 10 (n Pdirect 1 10 (token 10 none) none) none)) none) (token 11 none))) none)))) none) none)) (token 12 (n Param 1 13 (n Specs 1 13 (n Main 1 13 (n Word 4 13 (token 13 none) none) none) (n Pdecl 2 14 (n Pdirect 1 14 (token 14 none) none) none)) none))) (token 15 none))) none)) none) (n ExtTail 1 16 (n FunBody 1 16 (token 16 (n BlockItem 3 17 (n Statement 13 17 (token 17 (n Unary 3 18 (n Primary 1 18 (token 18 none) (n Post 2 19 (token 19 (n Args 1 20 (n Primary 1 20 (token 20 none) none) (token 21 none))) none)) (token 22 none))) none) (token 23 none))) none) none)) none)) none)

prototypes : binds_moved (2 ∷ 1 ∷ []) (λ k. (k == 2)) prototypes-text prototypes-tree ≡ true
unfolding binding_of walked arranged items_of woven gaps_of span_of numbers
prototypes = refl

-- int x[f(sizeof(int (*)(int t)), sizeof(int (*)(int u)))] { return t; }: the list that the body begins with is another one
abbrev pub body-text : List Token
body-text = (tk Ident (codes "int") ∷ tk Ident (codes "x") ∷ tk Punct (codes "[") ∷ tk Ident (codes "f") ∷ tk Punct (codes "(") ∷ tk Ident (codes "sizeof") ∷ tk Punct (codes "(") ∷ tk Ident (codes "int") ∷ tk Punct (codes "(") ∷ tk Punct (codes "*") ∷ tk Punct (codes ")") ∷ tk Punct (codes "(") ∷ tk Ident (codes "int") ∷ tk Ident (codes "t") ∷ tk Punct (codes ")") ∷ tk Punct (codes ")") ∷ tk Punct (codes ",") ∷ tk Ident (codes "sizeof") ∷ tk Punct (codes "(") ∷ tk Ident (codes "int") ∷ tk Punct (codes "(") ∷ tk Punct (codes "*") ∷ tk Punct (codes ")") ∷ tk Punct (codes "(") ∷ tk Ident (codes "int") ∷ tk Ident (codes "u") ∷ tk Punct (codes ")") ∷ tk Punct (codes ")") ∷ tk Punct (codes ")") ∷ tk Punct (codes "]") ∷ tk Punct (codes "{") ∷ tk Ident (codes "return") ∷ tk Ident (codes "t") ∷ tk Punct (codes ";") ∷ tk Punct (codes "}") ∷ [])

abbrev pub body-tree : Node
body-tree = unit (n External 2 0 (n Specs 1 0 (n Main 1 0 (n Word 4 0 (token 0 none) none) none) (n ExtRest 2 1 (n Declarator 1 1 (n Direct 1 1 (token 1 (n Suffix 1 2 (token 2 (n BoundNode 2 3 (n Unary 3 3 (n Primary 1 3 (token 3 none) (n Post 2 4 (token 4 (n Args 1 5 (n Unary 2 5 (token 5 (n SizeRest 1 6 (token 6 (n TypeName 1 7 (n Specs 1 7 (n Main 1 7 (n Word 4 7 (token 7 none) none) none) (n Adecl 2 8 (n Adirect 1 8 (token 8 (n Adecl 1 9 (n Pointer 1 9 (token 9 none) none) (token 10 (n Suffix 2 11 (token 11 (n Params 2 12 (n Param 1 12 (n Specs 1 12 (n Main 1 12 (n Word 4 12 (token 12 none) none) none) (n Pdecl 2 13 (n Pdirect 1 13 (token 13 none) none) none)) none) (token 14 none))) none)))) none) none)) (token 15 none))) none)) (token 16 (n Unary 2 17 (token 17 (n SizeRest 1 18 (token 18 (n TypeName 1 19 (n Specs 1 19 (n Main 1 19 (n Word 4 19 (token 19 none) none) none) (n Adecl 2 20 (n Adirect 1 20 (token 20 (n Adecl 1 21 (n Pointer 1 21 (token 21 none) none) (token 22 (n Suffix 2 23 (token 23 (n Params 2 24 (n Param 1 24 (n Specs 1 24 (n Main 1 24 (n Word 4 24 (token 24 none) none) none) (n Pdecl 2 25 (n Pdirect 1 25 (token 25 none) none) none)) none) (token 26 none))) none)))) none) none)) (token 27 none))) none)) none))) (token 28 none))) none)) none) (token 29 none))) none)) none) (n ExtTail 1 30 (n FunBody 1 30 (token 30 (n BlockItem 3 31 (n Statement 13 31 (token 31 (n Primary 1 32 (token 32 none) (token 33 none))) none) (token 34 none))) none) none)) none)) none)

body : binds_moved (2 ∷ 1 ∷ []) (λ k. (k == 4)) body-text body-tree ≡ false
unfolding binding_of walked arranged items_of woven gaps_of span_of numbers
body = refl

-- int f(int a, int b); int v = f(sizeof(struct q { int m; }), ((struct q *)0)->m);: a structure is declared in the first argument, and used in the second
abbrev pub tag-text : List Token
tag-text = (tk Ident (codes "int") ∷ tk Ident (codes "f") ∷ tk Punct (codes "(") ∷ tk Ident (codes "int") ∷ tk Ident (codes "a") ∷ tk Punct (codes ",") ∷ tk Ident (codes "int") ∷ tk Ident (codes "b") ∷ tk Punct (codes ")") ∷ tk Punct (codes ";") ∷ tk Ident (codes "int") ∷ tk Ident (codes "v") ∷ tk Punct (codes "=") ∷ tk Ident (codes "f") ∷ tk Punct (codes "(") ∷ tk Ident (codes "sizeof") ∷ tk Punct (codes "(") ∷ tk Ident (codes "struct") ∷ tk Ident (codes "q") ∷ tk Punct (codes "{") ∷ tk Ident (codes "int") ∷ tk Ident (codes "m") ∷ tk Punct (codes ";") ∷ tk Punct (codes "}") ∷ tk Punct (codes ")") ∷ tk Punct (codes ",") ∷ tk Punct (codes "(") ∷ tk Punct (codes "(") ∷ tk Ident (codes "struct") ∷ tk Ident (codes "q") ∷ tk Punct (codes "*") ∷ tk Punct (codes ")") ∷ tk Number (codes "0") ∷ tk Punct (codes ")") ∷ tk Punct (codes "->") ∷ tk Ident (codes "m") ∷ tk Punct (codes ")") ∷ tk Punct (codes ";") ∷ [])

abbrev pub tag-tree : Node
tag-tree = unit (n External 2 0 (n Specs 1 0 (n Main 1 0 (n Word 4 0 (token 0 none) none) none) (n ExtRest 2 1 (n Declarator 1 1 (n Direct 1 1 (token 1 (n Suffix 2 2 (token 2 (n Params 2 3 (n Param 1 3 (n Specs 1 3 (n Main 1 3 (n Word 4 3 (token 3 none) none) none) (n Pdecl 2 4 (n Pdirect 1 4 (token 4 none) none) none)) (token 5 (n Param 1 6 (n Specs 1 6 (n Main 1 6 (n Word 4 6 (token 6 none) none) none) (n Pdecl 2 7 (n Pdirect 1 7 (token 7 none) none) none)) none))) (token 8 none))) none)) none) (n ExtTail 2 9 (token 9 none) none)) none)) (n External 2 10 (n Specs 1 10 (n Main 1 10 (n Word 4 10 (token 10 none) none) none) (n ExtRest 2 11 (n Declarator 1 11 (n Direct 1 11 (token 11 none) none) (n ExtTail 2 12 (token 12 (n Init 2 13 (n Unary 3 13 (n Primary 1 13 (token 13 none) (n Post 2 14 (token 14 (n Args 1 15 (n Unary 2 15 (token 15 (n SizeRest 1 16 (token 16 (n TypeName 1 17 (n Specs 1 17 (n Main 2 17 (n StructSpec 1 17 (token 17 (n SuRest 1 18 (token 18 (token 19 (n Members 1 20 (n MemberNode 2 20 (n Specs 1 20 (n Main 1 20 (n Word 4 20 (token 20 none) none) none) (n Mdecl 2 21 (n Declarator 1 21 (n Direct 1 21 (token 21 none) none) none) (token 22 none))) none) (token 23 none)))) none)) none) none) none) (token 24 none))) none)) (token 25 (n Unary 3 26 (n Primary 5 26 (token 26 (n Cast 1 27 (token 27 (n TypeName 1 28 (n Specs 1 28 (n Main 2 28 (n StructSpec 1 28 (token 28 (n SuRest 1 29 (token 29 none) none)) none) none) (n Adecl 1 30 (n Pointer 1 30 (token 30 none) none) none)) (token 31 (n CastRest 2 32 (n Primary 2 32 (token 32 none) none) none)))) (token 33 none))) (n Post 4 34 (token 34 (token 35 none)) none)) none))) (token 36 none))) none)) none) (token 37 none))) none)) none)) none))

tag : binds_moved (2 ∷ 1 ∷ []) (λ k. (k == 2) || ((k == 14))) tag-text tag-tree ≡ false
unfolding binding_of walked arranged items_of woven gaps_of span_of numbers
tag = refl

-- typedef int T; int f(int g(int (T)), int T);: the second parameter hides a typedef name
abbrev pub typedefs-text : List Token
typedefs-text = (tk Ident (codes "typedef") ∷ tk Ident (codes "int") ∷ tk Ident (codes "T") ∷ tk Punct (codes ";") ∷ tk Ident (codes "int") ∷ tk Ident (codes "f") ∷ tk Punct (codes "(") ∷ tk Ident (codes "int") ∷ tk Ident (codes "g") ∷ tk Punct (codes "(") ∷ tk Ident (codes "int") ∷ tk Punct (codes "(") ∷ tk Ident (codes "T") ∷ tk Punct (codes ")") ∷ tk Punct (codes ")") ∷ tk Punct (codes ",") ∷ tk Ident (codes "int") ∷ tk Ident (codes "T") ∷ tk Punct (codes ")") ∷ tk Punct (codes ";") ∷ [])

abbrev pub typedefs-tree : Node
typedefs-tree = unit (n External 2 0 (n Specs 1 0 (n Mod 1 0 (token 0 none) (n Main 1 1 (n Word 4 1 (token 1 none) none) none)) (n ExtRest 2 2 (n Declarator 1 2 (n Direct 1 2 (token 2 none) none) (n ExtTail 2 3 (token 3 none) none)) none)) (n External 2 4 (n Specs 1 4 (n Main 1 4 (n Word 4 4 (token 4 none) none) none) (n ExtRest 2 5 (n Declarator 1 5 (n Direct 1 5 (token 5 (n Suffix 2 6 (token 6 (n Params 2 7 (n Param 1 7 (n Specs 1 7 (n Main 1 7 (n Word 4 7 (token 7 none) none) none) (n Pdecl 2 8 (n Pdirect 1 8 (token 8 (n Suffix 2 9 (token 9 (n Params 2 10 (n Param 1 10 (n Specs 1 10 (n Main 1 10 (n Word 4 10 (token 10 none) none) none) (n Pdecl 2 11 (n Pdirect 3 11 (n Suffix 2 11 (token 11 (n Params 2 12 (n Param 1 12 (n Specs 1 12 (n Main 4 12 (token 12 none) none) none) none) (token 13 none))) none) none) none)) none) (token 14 none))) none)) none) none)) (token 15 (n Param 1 16 (n Specs 1 16 (n Main 1 16 (n Word 4 16 (token 16 none) none) none) (n Pdecl 2 17 (n Pdirect 1 17 (token 17 none) none) none)) none))) (token 18 none))) none)) none) (n ExtTail 2 19 (token 19 none) none)) none)) none))

typedefs : binds_moved (2 ∷ 1 ∷ []) (λ k. (k == 6)) typedefs-text typedefs-tree ≡ false
unfolding binding_of walked arranged items_of woven gaps_of span_of numbers
typedefs = refl
