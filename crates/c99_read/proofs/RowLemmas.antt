-- What the rows of the table need so that they can be read.
use Rattle.std.proofs.Common.{ℕ, ◌+◌, ◌≡◌, ◌<◌, ◌≤◌, Bool, true, false, if◌then◌else◌, nat_lt, List, [], ◌∷◌, Option, None, Some, refl, subst, arith}
use Rattle.std.specs.List.{list_all}
use Rattle.std.proofs.lemmas.Bool.{and_parts, ltb-true}
use Rattle.c99_grammar.specs.declared.dialects.Dialect.{Dialect}
use Rattle.c99_grammar.specs.declared.dialects.Dialect.TheVariants.{Iso, Gnu}
use Rattle.c99_grammar.specs.declared.dialects.Edition.{Edition}
use Rattle.c99_tree.specs.declared.production.Production.{Production}
use Rattle.c99_tree.specs.declared.production.Production.TheVariants.{TranslationUnit, External, ExtRest, ExtTail, FunBody, Declaration, DeclRest, InitDecl, Sassert, Specs, Main, Mod, Qual, Word, StructSpec, SuRest, Members, Member, MemRest, Mdecl, EnumSpec, EnRest, Enumerators, Enumerator, Declarator, Pointer, Direct, Suffix, Bound, Params, Param, Pdecl, Pdirect, TypeName, Adecl, Adirect, Init, InitList, InitItem, Designator, Expr, Assign, Asgop, Cond, Lor, Land, Bor, Bxor, Band, Equal, Relate, Shift, Add, Mul, Cast, CastRest, Unary, SizeRest, SizeLit, Primary, Post, Args, Block, BlockItem, Statement, Sub, ForInit, AutoDecl, Attr, AttrItem, AttrWord, AsmName, Operand, Association, MemberPath, AsmPart, AsmOperand}
use Rattle.c99_grammar.specs.Items.{Item, one, part, end_of_text, act, ◌·◌, choice, maybe, many, deep, Alternative}
use Rattle.c99_read.specs.Choosing.{Choice, chosen}
use Rattle.c99_read.specs.Levels.{level_of, height, size, Met, is_ready}
use Rattle.c99_read.specs.Reading.{may}
use Rattle.c99_read.specs.Sound.{has_token, is_low}
use Rattle.c99_grammar.specs.Standard.{Grammar, grammar}
use Rattle.c99_grammar.proofs.StandardLemmas.{by_edition, by_dialect}
use Rattle.c99_read.specs.State.{State}

-- each alternative of the table is ready to be read
abbrev AreReady : Production → Dialect → Type 0
AreReady p std = list_all (λ a. is_ready p a.body) ((grammar std).table p) ≡ true

ready-at-iso : (p : Production) (std : Edition) → AreReady p (Iso std)
ready-at-iso TranslationUnit std = refl
ready-at-iso External std = by_edition (λ s. AreReady External (Iso s)) refl refl std
ready-at-iso ExtRest std = refl
ready-at-iso ExtTail std = refl
ready-at-iso FunBody std = refl
ready-at-iso Declaration std = by_edition (λ s. AreReady Declaration (Iso s)) refl refl std
ready-at-iso DeclRest std = refl
ready-at-iso InitDecl std = refl
ready-at-iso Sassert std = by_edition (λ s. AreReady Sassert (Iso s)) refl refl std
ready-at-iso Specs std = refl
ready-at-iso Main std = refl
ready-at-iso Mod std = by_edition (λ s. AreReady Mod (Iso s)) refl refl std
ready-at-iso Qual std = refl
ready-at-iso Word std = refl
ready-at-iso StructSpec std = refl
ready-at-iso SuRest std = refl
ready-at-iso Members std = refl
ready-at-iso Member std = by_edition (λ s. AreReady Member (Iso s)) refl refl std
ready-at-iso MemRest std = by_edition (λ s. AreReady MemRest (Iso s)) refl refl std
ready-at-iso Mdecl std = refl
ready-at-iso EnumSpec std = refl
ready-at-iso EnRest std = refl
ready-at-iso Enumerators std = refl
ready-at-iso Enumerator std = refl
ready-at-iso Declarator std = refl
ready-at-iso Pointer std = refl
ready-at-iso Direct std = refl
ready-at-iso Suffix std = refl
ready-at-iso Bound std = refl
ready-at-iso Params std = refl
ready-at-iso Param std = refl
ready-at-iso Pdecl std = refl
ready-at-iso Pdirect std = refl
ready-at-iso TypeName std = refl
ready-at-iso Adecl std = refl
ready-at-iso Adirect std = refl
ready-at-iso Init std = refl
ready-at-iso InitList std = refl
ready-at-iso InitItem std = refl
ready-at-iso Designator std = refl
ready-at-iso Expr std = refl
ready-at-iso Assign std = refl
ready-at-iso Asgop std = refl
ready-at-iso Cond std = refl
ready-at-iso Lor std = refl
ready-at-iso Land std = refl
ready-at-iso Bor std = refl
ready-at-iso Bxor std = refl
ready-at-iso Band std = refl
ready-at-iso Equal std = refl
ready-at-iso Relate std = refl
ready-at-iso Shift std = refl
ready-at-iso Add std = refl
ready-at-iso Mul std = refl
ready-at-iso Cast std = refl
ready-at-iso CastRest std = refl
ready-at-iso Unary std = refl
ready-at-iso SizeRest std = refl
ready-at-iso SizeLit std = refl
ready-at-iso Primary std = refl
ready-at-iso Post std = refl
ready-at-iso Args std = refl
ready-at-iso Block std = refl
ready-at-iso BlockItem std = refl
ready-at-iso Statement std = refl
ready-at-iso Sub std = refl
ready-at-iso ForInit std = refl
ready-at-iso AutoDecl std = refl
ready-at-iso Attr std = refl
ready-at-iso AttrItem std = refl
ready-at-iso AttrWord std = refl
ready-at-iso AsmName std = refl
ready-at-iso Operand std = refl
ready-at-iso Association std = refl
ready-at-iso MemberPath std = refl
ready-at-iso AsmPart std = refl
ready-at-iso AsmOperand std = refl

ready-at-gnu : (p : Production) → AreReady p Gnu
ready-at-gnu TranslationUnit = refl
ready-at-gnu External = refl
ready-at-gnu ExtRest = refl
ready-at-gnu ExtTail = refl
ready-at-gnu FunBody = refl
ready-at-gnu Declaration = refl
ready-at-gnu DeclRest = refl
ready-at-gnu InitDecl = refl
ready-at-gnu Sassert = refl
ready-at-gnu Specs = refl
ready-at-gnu Main = refl
ready-at-gnu Mod = refl
ready-at-gnu Qual = refl
ready-at-gnu Word = refl
ready-at-gnu StructSpec = refl
ready-at-gnu SuRest = refl
ready-at-gnu Members = refl
ready-at-gnu Member = refl
ready-at-gnu MemRest = refl
ready-at-gnu Mdecl = refl
ready-at-gnu EnumSpec = refl
ready-at-gnu EnRest = refl
ready-at-gnu Enumerators = refl
ready-at-gnu Enumerator = refl
ready-at-gnu Declarator = refl
ready-at-gnu Pointer = refl
ready-at-gnu Direct = refl
ready-at-gnu Suffix = refl
ready-at-gnu Bound = refl
ready-at-gnu Params = refl
ready-at-gnu Param = refl
ready-at-gnu Pdecl = refl
ready-at-gnu Pdirect = refl
ready-at-gnu TypeName = refl
ready-at-gnu Adecl = refl
ready-at-gnu Adirect = refl
ready-at-gnu Init = refl
ready-at-gnu InitList = refl
ready-at-gnu InitItem = refl
ready-at-gnu Designator = refl
ready-at-gnu Expr = refl
ready-at-gnu Assign = refl
ready-at-gnu Asgop = refl
ready-at-gnu Cond = refl
ready-at-gnu Lor = refl
ready-at-gnu Land = refl
ready-at-gnu Bor = refl
ready-at-gnu Bxor = refl
ready-at-gnu Band = refl
ready-at-gnu Equal = refl
ready-at-gnu Relate = refl
ready-at-gnu Shift = refl
ready-at-gnu Add = refl
ready-at-gnu Mul = refl
ready-at-gnu Cast = refl
ready-at-gnu CastRest = refl
ready-at-gnu Unary = refl
ready-at-gnu SizeRest = refl
ready-at-gnu SizeLit = refl
ready-at-gnu Primary = refl
ready-at-gnu Post = refl
ready-at-gnu Args = refl
ready-at-gnu Block = refl
ready-at-gnu BlockItem = refl
ready-at-gnu Statement = refl
ready-at-gnu Sub = refl
ready-at-gnu ForInit = refl
ready-at-gnu AutoDecl = refl
ready-at-gnu Attr = refl
ready-at-gnu AttrItem = refl
ready-at-gnu AttrWord = refl
ready-at-gnu AsmName = refl
ready-at-gnu Operand = refl
ready-at-gnu Association = refl
ready-at-gnu MemberPath = refl
ready-at-gnu AsmPart = refl
ready-at-gnu AsmOperand = refl

pub ready-at : (p : Production) (std : Dialect) → AreReady p std
ready-at p = by_dialect (AreReady p) (ready-at-iso p) (ready-at-gnu p)

same-if : (b x : Bool) → (if b then x else x) ≡ true → x ≡ true
same-if true x e = e
same-if false x e = e

pub low-met : (item : Item) → is_low 64 item ≡ true → Met item
low-met (one classes) low = tt
low-met (part p) low = tt
low-met end_of_text low = tt
low-met (act a) low = tt
low-met (a · b) low =
    let both = and_parts (is_low 64 a) _ low in
    (low-met a both.0, low-met b (same-if (has_token a) (is_low 64 b) both.1))
low-met (choice a b) low =
    let both = and_parts (is_low 64 a) _ low in
    (low-met a both.0, low-met b both.1)
low-met (maybe a) low = low-met a low
low-met (many t a) low =
    let both = and_parts (is_low 64 a) _ low in
    (both.1, low-met a both.0)
low-met (deep a) low = low-met a low

-- what is known of an alternative that is ready
pub record IsReady (p : Production) (body : Item) : Type 0 where
  pub low : height body ≤ level_of p
  pub short : size body < 100
  pub met : Met body

pub ready-parts : (p : Production) (body : Item) → is_ready p body ≡ true → IsReady p body
ready-parts p body ready =
    let both = and_parts (is_low 64 body) _ ready in
    let sizes = and_parts (nat_lt (height body) (level_of p + 1)) _ both.1 in
    let h : height body < level_of p + 1 = ltb-true _ _ sizes.0 in
    record { low = omega (arith, h); short = ltb-true _ _ sizes.1; met = low-met body both.0 }

ready-if : (b : Bool) (p : Production) (first c : Choice) (rest : Option Choice) → is_ready p first.body ≡ true
    → (rest ≡ Some c → is_ready p c.body ≡ true) → (if b then Some first else rest) ≡ Some c → is_ready p c.body ≡ true
ready-if true p first c rest here later e =
    let ready_in : Option Choice → Type 0 = λ o. elim o [ None ↦ Unit {0} | Some x ↦ is_ready p x.body ≡ true ] in
    subst ready_in e here
ready-if false p first c rest here later e = later e

chosen-ready : (g : Grammar) (p : Production) (s : State) (n : ℕ) (alternatives : List Alternative) (c : Choice)
    → list_all (λ a. is_ready p a.body) alternatives ≡ true → chosen g s n alternatives ≡ Some c → is_ready p c.body ≡ true
chosen-ready g p s n [] c ready e = absurd (none≢some e)
  where
    none≢some : ◌≡◌ {A = Option Choice} None (Some c) → ⊥
    none≢some f = cc
chosen-ready g p s n (a ∷ more) c ready e =
    let both = and_parts (is_ready p a.body) _ ready in
    ready-if (may g a.test a.body s) p (record { number = n; body = a.body }) c (chosen g s (n + 1) more) both.0
    (chosen-ready g p s (n + 1) more c both.1) e

-- an alternative of the table that was chosen
pub row-ready : (std : Dialect) (p : Production) (s : State) (c : Choice) → chosen (grammar std) s 1 ((grammar std).table p) ≡ Some c → IsReady p c.body
row-ready std p s c e = ready-parts p c.body (chosen-ready (grammar std) p s 1 ((grammar std).table p) c (ready-at p std) e)
