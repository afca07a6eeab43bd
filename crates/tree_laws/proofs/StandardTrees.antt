-- What is told of narrowed trees is what is told of the trees.
use Rattle.std.proofs.Common.{ℕ, ◌≡◌, Bool, true, false, ◌&&◌, ◌||◌, if◌then◌else◌, ◌==◌, List, Option, Some, inl, inr, refl, sym, ap, ◌∙◌}
use Rattle.std.proofs.lemmas.Bool.{or_parts, cases_Bool, eqb-true}
use Rattle.cs_base.specs.Token.{Token}
use Rattle.c99_tree.specs.Tree.{Forest, none, token, node, Node, node_of, Part, leaf, inner, put, lone, collapsed}
use Rattle.c99_tree.specs.declared.production.Label.{Label}
use Rattle.c99_tree.specs.declared.production.Production.{Production}
use Rattle.c99_tree.specs.declared.production.Production.TheVariants.{TranslationUnit, External, ExtRest, ExtTail, FunBody, Declaration, DeclRest, InitDecl, Sassert, Specs, Main, Mod, Qual, Word, StructSpec, SuRest, Members, Member, MemRest, Mdecl, EnumSpec, EnRest, Enumerators, Enumerator, Declarator, Pointer, Direct, Suffix, Bound, Params, Param, Pdecl, Pdirect, TypeName, Adecl, Adirect, Init, InitList, InitItem, Designator, Expr, Assign, Asgop, Cond, Lor, Land, Bor, Bxor, Band, Equal, Relate, Shift, Add, Mul, Cast, CastRest, Unary, SizeRest, SizeLit, Primary, Post, Args, Block, BlockItem, Statement, Sub, ForInit, AutoDecl, Attr, AttrItem, AttrWord, AsmName, Operand, Association, MemberPath, AsmPart, AsmOperand}
use Rattle.c99_read.specs.State.{base_at, is_identifier, is_declaring, is_direct, has_name, name_below, last_declared, last_identifier, is_mod, is_main, is_typedef_word, is_typedef_part, typedef_word_in, has_typedef, collapses, finished}
use Rattle.tree_laws.specs.Narrowed.{number, renumbered, is_member, is_line, spread_if, narrowed, narrowed_node}
use Rattle.tree_laws.proofs.Standing.{is_members, only, wide_open}
use Rattle.tree_laws.proofs.StandardClasses.{c99, c11}

-- ---- Children behind others

abbrev pub joined : Forest → Forest → Forest
joined none g = g
joined (token i rest) g = token i (joined rest g)
joined (node l first under rest) g = node l first under (joined rest g)

pub joined-none : (f : Forest) → joined f none ≡ f
joined-none none = refl
joined-none (token i rest) = ap (token i) (joined-none rest)
joined-none (node l first under rest) = ap (node l first under) (joined-none rest)

pub joined-put : (f g : Forest) (x : Part) → put (joined f g) x ≡ joined f (put g x)
joined-put none g x = refl
joined-put (token i rest) g x = ap (token i) (joined-put rest g x)
joined-put (node l first under rest) g x = ap (node l first under) (joined-put rest g x)

abbrev pub narrowed_part : Part → Part
narrowed_part (leaf i) = leaf i
narrowed_part (inner n) = inner (narrowed_node n)

pub narrowed-put : (f : Forest) (x : Part) → put (narrowed f) (narrowed_part x) ≡ narrowed (put f x)
narrowed-put none (leaf i) = refl
narrowed-put none (inner n) = refl
narrowed-put (token i rest) x = ap (token i) (narrowed-put rest x)
narrowed-put (node l first under rest) x = ap (node (renumbered l) first (spread_if (is_line l) (narrowed under))) (narrowed-put rest x)

-- ---- Members

-- a child is one line of members
abbrev pub has_member : Forest → Bool
has_member none = false
has_member (token i rest) = has_member rest
has_member (node l first under rest) = is_member l.production || has_member rest

abbrev pub is_member_part : Part → Bool
is_member_part (leaf i) = false
is_member_part (inner n) = is_member n.label.production

pub has_member-put : (f : Forest) (x : Part) → has_member f ≡ false → is_member_part x ≡ false → has_member (put f x) ≡ false
has_member-put none (leaf i) e h = refl
has_member-put none (inner n) e h = rw h refl
has_member-put (token i rest) x e h = has_member-put rest x e h
has_member-put (node l first under rest) x e h =
    let parts = or_parts (is_member l.production) (has_member rest) e in
    rw (parts.0, has_member-put rest x parts.1 h) refl

pub no_line : (l : Label) → is_member l.production ≡ false → is_line l ≡ false
no_line l e = rw e refl

pub lone-narrowed : (f : Forest) (n : Node) → lone (narrowed f) (narrowed_node n) ≡ narrowed_node (lone f n)
lone-narrowed none n = refl
lone-narrowed (token i rest) n = refl
lone-narrowed (node l first under none) n = refl
lone-narrowed (node l first under (token i rest)) n = refl
lone-narrowed (node l first under (node m second below rest)) n = refl

-- a lone child of these is no line of members
pub lone-member : (f : Forest) (n : Node) → has_member f ≡ false → is_member n.label.production ≡ false → is_member (lone f n).label.production ≡ false
lone-member none n e h = h
lone-member (token i rest) n e h = h
lone-member (node l first under none) n e h = (or_parts (is_member l.production) false e).0
lone-member (node l first under (token i rest)) n e h = h
lone-member (node l first under (node m second below rest)) n e h = h

-- ---- Names

has_name-same : (p : Production) (n : ℕ) → (is_direct p && (number p n == 1)) ≡ (is_direct p && (n == 1))
has_name-same TranslationUnit n = refl
has_name-same External n = refl
has_name-same ExtRest n = refl
has_name-same ExtTail n = refl
has_name-same FunBody n = refl
has_name-same Declaration n = refl
has_name-same DeclRest n = refl
has_name-same InitDecl n = refl
has_name-same Sassert n = refl
has_name-same Specs n = refl
has_name-same Main n = refl
has_name-same Mod n = refl
has_name-same Qual n = refl
has_name-same Word n = refl
has_name-same StructSpec n = refl
has_name-same SuRest n = refl
has_name-same Members n = refl
has_name-same Member n = refl
has_name-same MemRest n = refl
has_name-same Mdecl n = refl
has_name-same EnumSpec n = refl
has_name-same EnRest n = refl
has_name-same Enumerators n = refl
has_name-same Enumerator n = refl
has_name-same Declarator n = refl
has_name-same Pointer n = refl
has_name-same Direct n = refl
has_name-same Suffix n = refl
has_name-same Bound n = refl
has_name-same Params n = refl
has_name-same Param n = refl
has_name-same Pdecl n = refl
has_name-same Pdirect n = refl
has_name-same TypeName n = refl
has_name-same Adecl n = refl
has_name-same Adirect n = refl
has_name-same Init n = refl
has_name-same InitList n = refl
has_name-same InitItem n = refl
has_name-same Designator n = refl
has_name-same Expr n = refl
has_name-same Assign n = refl
has_name-same Asgop n = refl
has_name-same Cond n = refl
has_name-same Lor n = refl
has_name-same Land n = refl
has_name-same Bor n = refl
has_name-same Bxor n = refl
has_name-same Band n = refl
has_name-same Equal n = refl
has_name-same Relate n = refl
has_name-same Shift n = refl
has_name-same Add n = refl
has_name-same Mul n = refl
has_name-same Cast n = refl
has_name-same CastRest n = refl
has_name-same Unary n = refl
has_name-same SizeRest n = refl
has_name-same SizeLit n = refl
has_name-same Primary n = refl
has_name-same Post n = refl
has_name-same Args n = refl
has_name-same Block n = refl
has_name-same BlockItem n = refl
has_name-same Statement n = refl
has_name-same Sub n = refl
has_name-same ForInit n = refl
has_name-same AutoDecl n = refl
has_name-same Attr n = refl
has_name-same AttrItem n = refl
has_name-same AttrWord n = refl
has_name-same AsmName n = refl
has_name-same Operand n = refl
has_name-same Association n = refl
has_name-same MemberPath n = refl
has_name-same AsmPart n = refl
has_name-same AsmOperand n = refl

declaring_no_member : (p : Production) → is_declaring p ≡ true → is_member p ≡ false
declaring_no_member TranslationUnit e = refl
declaring_no_member External e = refl
declaring_no_member ExtRest e = refl
declaring_no_member ExtTail e = refl
declaring_no_member FunBody e = refl
declaring_no_member Declaration e = refl
declaring_no_member DeclRest e = refl
declaring_no_member InitDecl e = refl
declaring_no_member Sassert e = refl
declaring_no_member Specs e = refl
declaring_no_member Main e = refl
declaring_no_member Mod e = refl
declaring_no_member Qual e = refl
declaring_no_member Word e = refl
declaring_no_member StructSpec e = refl
declaring_no_member SuRest e = refl
declaring_no_member Members e = refl
declaring_no_member Member e = cc
declaring_no_member MemRest e = refl
declaring_no_member Mdecl e = refl
declaring_no_member EnumSpec e = refl
declaring_no_member EnRest e = refl
declaring_no_member Enumerators e = refl
declaring_no_member Enumerator e = refl
declaring_no_member Declarator e = refl
declaring_no_member Pointer e = refl
declaring_no_member Direct e = refl
declaring_no_member Suffix e = refl
declaring_no_member Bound e = refl
declaring_no_member Params e = refl
declaring_no_member Param e = refl
declaring_no_member Pdecl e = refl
declaring_no_member Pdirect e = refl
declaring_no_member TypeName e = refl
declaring_no_member Adecl e = refl
declaring_no_member Adirect e = refl
declaring_no_member Init e = refl
declaring_no_member InitList e = refl
declaring_no_member InitItem e = refl
declaring_no_member Designator e = refl
declaring_no_member Expr e = refl
declaring_no_member Assign e = refl
declaring_no_member Asgop e = refl
declaring_no_member Cond e = refl
declaring_no_member Lor e = refl
declaring_no_member Land e = refl
declaring_no_member Bor e = refl
declaring_no_member Bxor e = refl
declaring_no_member Band e = refl
declaring_no_member Equal e = refl
declaring_no_member Relate e = refl
declaring_no_member Shift e = refl
declaring_no_member Add e = refl
declaring_no_member Mul e = refl
declaring_no_member Cast e = refl
declaring_no_member CastRest e = refl
declaring_no_member Unary e = refl
declaring_no_member SizeRest e = refl
declaring_no_member SizeLit e = refl
declaring_no_member Primary e = refl
declaring_no_member Post e = refl
declaring_no_member Args e = refl
declaring_no_member Block e = refl
declaring_no_member BlockItem e = refl
declaring_no_member Statement e = refl
declaring_no_member Sub e = refl
declaring_no_member ForInit e = refl
declaring_no_member AutoDecl e = refl
declaring_no_member Attr e = refl
declaring_no_member AttrItem e = refl
declaring_no_member AttrWord e = refl
declaring_no_member AsmName e = refl
declaring_no_member Operand e = refl
declaring_no_member Association e = refl
declaring_no_member MemberPath e = refl
declaring_no_member AsmPart e = refl
declaring_no_member AsmOperand e = refl

pub name_below-same : (l : Label) (f : Forest) → name_below (renumbered l) (narrowed f) ≡ name_below l f
name_below-same l none = refl
name_below-same l (token i rest) =
    ap (λ b. if b then Some i else name_below (renumbered l) (narrowed rest)) (has_name-same l.production l.alternative)
    ∙ ap (λ r. if has_name l then Some i else r) (name_below-same l rest)
name_below-same l (node m first under rest) =
    ap (λ r. if is_declaring m.production then name_below (renumbered m) (spread_if (is_line m) (narrowed under)) else r) (name_below-same l rest)
    ∙ chosen (is_declaring m.production) (λ d. ap (λ b. name_below (renumbered m) (spread_if b (narrowed under))) (no_line m (declaring_no_member m.production d)) ∙ name_below-same m under)
  where
    chosen : (b : Bool) → (b ≡ true → name_below (renumbered m) (spread_if (is_line m) (narrowed under)) ≡ name_below m under)
        → (if b then name_below (renumbered m) (spread_if (is_line m) (narrowed under)) else name_below l rest) ≡ (if b then name_below m under else name_below l rest)
    chosen true h = h refl
    chosen false h = refl

pub last_declared-same : (f : Forest) → has_member f ≡ false → last_declared (narrowed f) ≡ last_declared f
last_declared-same none e = refl
last_declared-same (token i rest) e = last_declared-same rest e
last_declared-same (node l first under none) e =
    ap (λ b. name_below (renumbered l) (spread_if b (narrowed under))) (no_line l ((or_parts (is_member l.production) false e).0)) ∙ name_below-same l under
last_declared-same (node l first under (token i rest)) e = last_declared-same rest ((or_parts (is_member l.production) (has_member rest) e).1)
last_declared-same (node l first under (node m second below rest)) e =
    last_declared-same (node m second below rest) ((or_parts (is_member l.production) (has_member (node m second below rest)) e).1)

pub last_identifier-same : (toks : List Token) → ((k : ℕ) → base_at c99 toks k ≡ base_at c11 toks k) → (f : Forest) (found : Option ℕ)
    → last_identifier c99 toks (narrowed f) found ≡ last_identifier c11 toks f found
last_identifier-same toks same none found = refl
last_identifier-same toks same (token i rest) found =
    ap (λ c. last_identifier c99 toks (narrowed rest) (if is_identifier c then Some i else found)) (same i)
    ∙ last_identifier-same toks same rest (if is_identifier (base_at c11 toks i) then Some i else found)
last_identifier-same toks same (node l first under rest) found = last_identifier-same toks same rest found

-- ---- The word `typedef`

seven : (n : ℕ) → ((if n == 8 then 7 else n) == 1) ≡ (n == 1)
seven n = elim (cases_Bool (n == 8)) [
  | inl e ↦ rw (e, eqb-true n 8 e) refl
  | inr e ↦ rw e refl
]

word-same : (p : Production) (n : ℕ) → (is_mod p && (number p n == 1)) ≡ (is_mod p && (n == 1))
word-same TranslationUnit n = refl
word-same External n = refl
word-same ExtRest n = refl
word-same ExtTail n = refl
word-same FunBody n = refl
word-same Declaration n = refl
word-same DeclRest n = refl
word-same InitDecl n = refl
word-same Sassert n = refl
word-same Specs n = refl
word-same Main n = refl
word-same Mod n = seven n
word-same Qual n = refl
word-same Word n = refl
word-same StructSpec n = refl
word-same SuRest n = refl
word-same Members n = refl
word-same Member n = refl
word-same MemRest n = refl
word-same Mdecl n = refl
word-same EnumSpec n = refl
word-same EnRest n = refl
word-same Enumerators n = refl
word-same Enumerator n = refl
word-same Declarator n = refl
word-same Pointer n = refl
word-same Direct n = refl
word-same Suffix n = refl
word-same Bound n = refl
word-same Params n = refl
word-same Param n = refl
word-same Pdecl n = refl
word-same Pdirect n = refl
word-same TypeName n = refl
word-same Adecl n = refl
word-same Adirect n = refl
word-same Init n = refl
word-same InitList n = refl
word-same InitItem n = refl
word-same Designator n = refl
word-same Expr n = refl
word-same Assign n = refl
word-same Asgop n = refl
word-same Cond n = refl
word-same Lor n = refl
word-same Land n = refl
word-same Bor n = refl
word-same Bxor n = refl
word-same Band n = refl
word-same Equal n = refl
word-same Relate n = refl
word-same Shift n = refl
word-same Add n = refl
word-same Mul n = refl
word-same Cast n = refl
word-same CastRest n = refl
word-same Unary n = refl
word-same SizeRest n = refl
word-same SizeLit n = refl
word-same Primary n = refl
word-same Post n = refl
word-same Args n = refl
word-same Block n = refl
word-same BlockItem n = refl
word-same Statement n = refl
word-same Sub n = refl
word-same ForInit n = refl
word-same AutoDecl n = refl
word-same Attr n = refl
word-same AttrItem n = refl
word-same AttrWord n = refl
word-same AsmName n = refl
word-same Operand n = refl
word-same Association n = refl
word-same MemberPath n = refl
word-same AsmPart n = refl
word-same AsmOperand n = refl

main_no_member : (p : Production) → is_main p ≡ true → is_member p ≡ false
main_no_member TranslationUnit e = refl
main_no_member External e = refl
main_no_member ExtRest e = refl
main_no_member ExtTail e = refl
main_no_member FunBody e = refl
main_no_member Declaration e = refl
main_no_member DeclRest e = refl
main_no_member InitDecl e = refl
main_no_member Sassert e = refl
main_no_member Specs e = refl
main_no_member Main e = refl
main_no_member Mod e = refl
main_no_member Qual e = refl
main_no_member Word e = refl
main_no_member StructSpec e = refl
main_no_member SuRest e = refl
main_no_member Members e = refl
main_no_member Member e = cc
main_no_member MemRest e = refl
main_no_member Mdecl e = refl
main_no_member EnumSpec e = refl
main_no_member EnRest e = refl
main_no_member Enumerators e = refl
main_no_member Enumerator e = refl
main_no_member Declarator e = refl
main_no_member Pointer e = refl
main_no_member Direct e = refl
main_no_member Suffix e = refl
main_no_member Bound e = refl
main_no_member Params e = refl
main_no_member Param e = refl
main_no_member Pdecl e = refl
main_no_member Pdirect e = refl
main_no_member TypeName e = refl
main_no_member Adecl e = refl
main_no_member Adirect e = refl
main_no_member Init e = refl
main_no_member InitList e = refl
main_no_member InitItem e = refl
main_no_member Designator e = refl
main_no_member Expr e = refl
main_no_member Assign e = refl
main_no_member Asgop e = refl
main_no_member Cond e = refl
main_no_member Lor e = refl
main_no_member Land e = refl
main_no_member Bor e = refl
main_no_member Bxor e = refl
main_no_member Band e = refl
main_no_member Equal e = refl
main_no_member Relate e = refl
main_no_member Shift e = refl
main_no_member Add e = refl
main_no_member Mul e = refl
main_no_member Cast e = refl
main_no_member CastRest e = refl
main_no_member Unary e = refl
main_no_member SizeRest e = refl
main_no_member SizeLit e = refl
main_no_member Primary e = refl
main_no_member Post e = refl
main_no_member Args e = refl
main_no_member Block e = refl
main_no_member BlockItem e = refl
main_no_member Statement e = refl
main_no_member Sub e = refl
main_no_member ForInit e = refl
main_no_member AutoDecl e = refl
main_no_member Attr e = refl
main_no_member AttrItem e = refl
main_no_member AttrWord e = refl
main_no_member AsmName e = refl
main_no_member Operand e = refl
main_no_member Association e = refl
main_no_member MemberPath e = refl
main_no_member AsmPart e = refl
main_no_member AsmOperand e = refl

typedef_word_in-same : (f : Forest) → typedef_word_in (narrowed f) ≡ typedef_word_in f
typedef_word_in-same none = refl
typedef_word_in-same (token i rest) = typedef_word_in-same rest
typedef_word_in-same (node l first under rest) =
    ap (λ b. b || typedef_word_in (narrowed rest)) (word-same l.production l.alternative) ∙ ap (λ b. is_typedef_word l || b) (typedef_word_in-same rest)

part-same : (l : Label) (under : Forest) → is_typedef_part (renumbered l) (spread_if (is_line l) (narrowed under)) ≡ is_typedef_part l under
part-same l under =
    ap (λ b. b || (is_main l.production && typedef_word_in (spread_if (is_line l) (narrowed under)))) (word-same l.production l.alternative)
    ∙ ap (λ b. is_typedef_word l || b) (chosen (is_main l.production)
    (λ d. ap (λ b. typedef_word_in (spread_if b (narrowed under))) (no_line l (main_no_member l.production d)) ∙ typedef_word_in-same under))
  where
    chosen : (b : Bool) → (b ≡ true → typedef_word_in (spread_if (is_line l) (narrowed under)) ≡ typedef_word_in under)
        → (b && typedef_word_in (spread_if (is_line l) (narrowed under))) ≡ (b && typedef_word_in under)
    chosen true h = h refl
    chosen false h = refl

pub has_typedef-same : (f : Forest) → has_typedef (narrowed f) ≡ has_typedef f
has_typedef-same none = refl
has_typedef-same (token i rest) = has_typedef-same rest
has_typedef-same (node l first under rest) =
    ap (λ b. b || has_typedef (narrowed rest)) (part-same l under) ∙ ap (λ b. is_typedef_part l under || b) (has_typedef-same rest)

-- ---- A node that is finished

pub finished-narrowed : (p : Production) (n : Node) → is_line n.label ≡ false → finished p (node_of (renumbered n.label) n.first (narrowed n.under)) ≡ narrowed_node (finished p n)
finished-narrowed p n e = by (collapses p)
  where
    as_is : node_of (renumbered n.label) n.first (narrowed n.under) ≡ narrowed_node n
    as_is = ap (λ b. node_of (renumbered n.label) n.first (spread_if b (narrowed n.under))) (sym e)

    by : (b : Bool) → (if b then collapsed (node_of (renumbered n.label) n.first (narrowed n.under)) else node_of (renumbered n.label) n.first (narrowed n.under))
        ≡ narrowed_node (if b then collapsed n else n)
    by true = ap (lone (narrowed n.under)) as_is ∙ lone-narrowed n.under n
    by false = as_is

pub collapsing_no_members : (p : Production) → collapses p ≡ true → is_members p ≡ false
collapsing_no_members TranslationUnit e = refl
collapsing_no_members External e = refl
collapsing_no_members ExtRest e = refl
collapsing_no_members ExtTail e = refl
collapsing_no_members FunBody e = refl
collapsing_no_members Declaration e = refl
collapsing_no_members DeclRest e = refl
collapsing_no_members InitDecl e = refl
collapsing_no_members Sassert e = refl
collapsing_no_members Specs e = refl
collapsing_no_members Main e = refl
collapsing_no_members Mod e = refl
collapsing_no_members Qual e = refl
collapsing_no_members Word e = refl
collapsing_no_members StructSpec e = refl
collapsing_no_members SuRest e = refl
collapsing_no_members Members e = cc
collapsing_no_members Member e = refl
collapsing_no_members MemRest e = refl
collapsing_no_members Mdecl e = refl
collapsing_no_members EnumSpec e = refl
collapsing_no_members EnRest e = refl
collapsing_no_members Enumerators e = refl
collapsing_no_members Enumerator e = refl
collapsing_no_members Declarator e = refl
collapsing_no_members Pointer e = refl
collapsing_no_members Direct e = refl
collapsing_no_members Suffix e = refl
collapsing_no_members Bound e = refl
collapsing_no_members Params e = refl
collapsing_no_members Param e = refl
collapsing_no_members Pdecl e = refl
collapsing_no_members Pdirect e = refl
collapsing_no_members TypeName e = refl
collapsing_no_members Adecl e = refl
collapsing_no_members Adirect e = refl
collapsing_no_members Init e = refl
collapsing_no_members InitList e = refl
collapsing_no_members InitItem e = refl
collapsing_no_members Designator e = refl
collapsing_no_members Expr e = refl
collapsing_no_members Assign e = refl
collapsing_no_members Asgop e = refl
collapsing_no_members Cond e = refl
collapsing_no_members Lor e = refl
collapsing_no_members Land e = refl
collapsing_no_members Bor e = refl
collapsing_no_members Bxor e = refl
collapsing_no_members Band e = refl
collapsing_no_members Equal e = refl
collapsing_no_members Relate e = refl
collapsing_no_members Shift e = refl
collapsing_no_members Add e = refl
collapsing_no_members Mul e = refl
collapsing_no_members Cast e = refl
collapsing_no_members CastRest e = refl
collapsing_no_members Unary e = refl
collapsing_no_members SizeRest e = refl
collapsing_no_members SizeLit e = refl
collapsing_no_members Primary e = refl
collapsing_no_members Post e = refl
collapsing_no_members Args e = refl
collapsing_no_members Block e = refl
collapsing_no_members BlockItem e = refl
collapsing_no_members Statement e = refl
collapsing_no_members Sub e = refl
collapsing_no_members ForInit e = refl
collapsing_no_members AutoDecl e = refl
collapsing_no_members Attr e = refl
collapsing_no_members AttrItem e = refl
collapsing_no_members AttrWord e = refl
collapsing_no_members AsmName e = refl
collapsing_no_members Operand e = refl
collapsing_no_members Association e = refl
collapsing_no_members MemberPath e = refl
collapsing_no_members AsmPart e = refl
collapsing_no_members AsmOperand e = refl

-- a node of another production is finished as one of no line of members
pub finished-member : (p : Production) (n : Node) → (is_members p ≡ false → has_member n.under ≡ false) → is_member n.label.production ≡ false
    → is_member (finished p n).label.production ≡ false
finished-member p n e h = by (collapses p) refl
  where
    by : (b : Bool) → collapses p ≡ b → is_member (if b then collapsed n else n).label.production ≡ false
    by true c = lone-member n.under n (e (collapsing_no_members p c)) h
    by false c = h

collapsing_no_member : (p : Production) → collapses p ≡ true → is_member p ≡ false
collapsing_no_member Member e = cc
collapsing_no_member _ e = refl

-- .. and stands where one of the production may
pub finished-only : (w p : Production) (n : Node) → n.label.production ≡ p → only w p ≡ true → (is_members p ≡ false → has_member n.under ≡ false)
    → only w (finished p n).label.production ≡ true
finished-only w p n e h held = by (collapses p) refl
  where
    by : (b : Bool) → collapses p ≡ b → only w (if b then collapsed n else n).label.production ≡ true
    by true c =
        wide_open w p (collapsed n).label.production c h
        (lone-member n.under n (held (collapsing_no_members p c)) (ap is_member e ∙ collapsing_no_member p c))
    by false c = ap (only w) e ∙ h
