-- What the table of each edition says of the children of nodes.
use Rattle.std.proofs.Common.{◌≡◌, ℕ, zero, suc, Bool, true, false, ◌&&◌, ◌||◌, not, List, [], ◌∷◌, ◌++◌, Some, inl, inr, refl, sym, ap, subst, ◌∙◌}
use Rattle.std.specs.Prelude.{slice_get}
use Rattle.std.specs.List.{list_all}
use Rattle.std.proofs.lemmas.Bool.{false≢true, and_parts, and_from}
use Rattle.std.proofs.lemmas.Option.{same_Some}
use Rattle.c99_grammar.specs.declared.dialects.Edition.{Edition}
use Rattle.c99_tree.specs.declared.production.Production.{Production}
use Rattle.c99_tree.specs.declared.production.Production.TheVariants.{TranslationUnit, External, ExtRest, ExtTail, FunBody, Declaration, DeclRest, InitDecl, Sassert, Specs, Main, Mod, Qual, Word, StructSpec, SuRest, Members, Member, MemRest, Mdecl, EnumSpec, EnRest, Enumerators, Enumerator, Declarator, Pointer, Direct, Suffix, Bound, Params, Param, Pdecl, Pdirect, TypeName, Adecl, Adirect, Init, InitList, InitItem, Designator, Expr, Assign, Asgop, Cond, Lor, Land, Bor, Bxor, Band, Equal, Relate, Shift, Add, Mul, Cast, CastRest, Unary, SizeRest, SizeLit, Primary, Post, Args, Block, BlockItem, Statement, Sub, ForInit, AutoDecl, Attr, AttrItem, AttrWord, AsmName, Operand, Association, MemberPath, AsmPart, AsmOperand}
use Rattle.c99_grammar.specs.Items.{Item, one, part, end_of_text, act, ◌·◌, choice, maybe, many, deep, Alternative}
use Rattle.c99_grammar.specs.Standard.{iso}
use Rattle.c99_read.specs.State.{collapses}
use Rattle.c99_grammar.proofs.StandardLemmas.{by_edition}
use Rattle.tree_laws.specs.Shapes.{parts_all, begins, has_no_body, passes_on}
use Rattle.template_meaning.specs.Children.{Child, a_token, a_node, is_operand, StandsFor, AreTimes, AreOfItem}

-- ---- Productions

-- what follows the word of a structure, union or enumeration
abbrev pub is_rest : Production → Bool
is_rest SuRest = true
is_rest EnRest = true
is_rest _ = false

abbrev pub is_specifier : Production → Bool
is_specifier StructSpec = true
is_specifier EnumSpec = true
is_specifier _ = false

-- no part of a block
abbrev pub is_outer : Production → Bool
is_outer Block = false
is_outer BlockItem = false
is_outer Statement = false
is_outer Sub = false
is_outer ForInit = false
is_outer _ = true

abbrev pub is_body : Production → Bool
is_body FunBody = true
is_body _ = false

abbrev pub is_ext_tail : Production → Bool
is_ext_tail ExtTail = true
is_ext_tail _ = false

abbrev pub is_ext_rest : Production → Bool
is_ext_rest ExtRest = true
is_ext_rest _ = false

abbrev pub is_declarator : Production → Bool
is_declarator Declarator = true
is_declarator Direct = true
is_declarator Pdecl = true
is_declarator Pdirect = true
is_declarator Adecl = true
is_declarator Adirect = true
is_declarator _ = false

abbrev pub is_declarator_child : Production → Bool
is_declarator_child Pointer = true
is_declarator_child Suffix = true
is_declarator_child p = is_declarator p

abbrev pub is_type_name : Production → Bool
is_type_name TypeName = true
is_type_name _ = false

abbrev pub is_type_child : Production → Bool
is_type_child Specs = true
is_type_child Adecl = true
is_type_child _ = false

-- what stands in the list of a structure or union alone
abbrev pub is_membered : Production → Bool
is_membered Member = true
is_membered MemRest = true
is_membered Mdecl = true
is_membered _ = false

abbrev pub has_members : Production → Bool
has_members Members = true
has_members p = is_membered p

abbrev pub is_list_node : Production → Bool
is_list_node Members = true
is_list_node Enumerators = true
is_list_node _ = false

-- ---- The table

abbrev pub not_these : (Production → Bool) → Production → Bool
not_these these p = not (these p)

-- and for which no operand stands
abbrev pub plainly : (Production → Bool) → Production → Bool
plainly ok p = ok p && not (collapses p)

-- what is asked of the parts of an alternative
abbrev pub row_first : Production → Alternative → Bool
row_first p a =
    ((is_specifier p || parts_all (not_these is_rest) a.body) && (not (is_specifier p) || begins a.body))
    && (passes_on has_no_body p a.body && ((is_body p || passes_on is_outer p a.body) && (not (is_body p) || parts_all has_no_body a.body)))

abbrev pub row_second : Production → Alternative → Bool
row_second p a =
    ((not (is_declarator p) || parts_all (plainly is_declarator_child) a.body) && (not (is_type_name p) || parts_all (plainly is_type_child) a.body))
    && ((is_ext_tail p || parts_all (not_these is_body) a.body) && (is_ext_rest p || parts_all (not_these is_ext_tail) a.body))

abbrev pub row_third : Production → Alternative → Bool
row_third p a = (has_members p || parts_all (not_these is_membered) a.body) && (is_rest p || parts_all (not_these is_list_node) a.body)

abbrev pub row_fits : Production → Alternative → Bool
row_fits p a = row_first p a && (row_second p a && row_third p a)

module _ (std : Edition) where
  pub fits_at : (p : Production) → list_all (row_fits p) ((iso std).table p) ≡ true
  fits_at TranslationUnit = refl
  fits_at External = by_edition (λ s. list_all (row_fits External) ((iso s).table External) ≡ true) refl refl std
  fits_at ExtRest = refl
  fits_at ExtTail = refl
  fits_at FunBody = refl
  fits_at Declaration = by_edition (λ s. list_all (row_fits Declaration) ((iso s).table Declaration) ≡ true) refl refl std
  fits_at DeclRest = refl
  fits_at InitDecl = refl
  fits_at Sassert = by_edition (λ s. list_all (row_fits Sassert) ((iso s).table Sassert) ≡ true) refl refl std
  fits_at Specs = refl
  fits_at Main = refl
  fits_at Mod = by_edition (λ s. list_all (row_fits Mod) ((iso s).table Mod) ≡ true) refl refl std
  fits_at Qual = refl
  fits_at Word = refl
  fits_at StructSpec = refl
  fits_at SuRest = refl
  fits_at Members = refl
  fits_at Member = by_edition (λ s. list_all (row_fits Member) ((iso s).table Member) ≡ true) refl refl std
  fits_at MemRest = by_edition (λ s. list_all (row_fits MemRest) ((iso s).table MemRest) ≡ true) refl refl std
  fits_at Mdecl = refl
  fits_at EnumSpec = refl
  fits_at EnRest = refl
  fits_at Enumerators = refl
  fits_at Enumerator = refl
  fits_at Declarator = refl
  fits_at Pointer = refl
  fits_at Direct = refl
  fits_at Suffix = refl
  fits_at Bound = refl
  fits_at Params = refl
  fits_at Param = refl
  fits_at Pdecl = refl
  fits_at Pdirect = refl
  fits_at TypeName = refl
  fits_at Adecl = refl
  fits_at Adirect = refl
  fits_at Init = refl
  fits_at InitList = refl
  fits_at InitItem = refl
  fits_at Designator = refl
  fits_at Expr = refl
  fits_at Assign = refl
  fits_at Asgop = refl
  fits_at Cond = refl
  fits_at Lor = refl
  fits_at Land = refl
  fits_at Bor = refl
  fits_at Bxor = refl
  fits_at Band = refl
  fits_at Equal = refl
  fits_at Relate = refl
  fits_at Shift = refl
  fits_at Add = refl
  fits_at Mul = refl
  fits_at Cast = refl
  fits_at CastRest = refl
  fits_at Unary = refl
  fits_at SizeRest = refl
  fits_at SizeLit = refl
  fits_at Primary = refl
  fits_at Post = refl
  fits_at Args = refl
  fits_at Block = refl
  fits_at BlockItem = refl
  fits_at Statement = refl
  fits_at Sub = refl
  fits_at ForInit = refl
  fits_at AutoDecl = refl
  fits_at Attr = refl
  fits_at AttrItem = refl
  fits_at AttrWord = refl
  fits_at AsmName = refl
  fits_at Operand = refl
  fits_at Association = refl
  fits_at MemberPath = refl
  fits_at AsmPart = refl
  fits_at AsmOperand = refl

-- ---- Nodes among children

abbrev pub all_nodes : (Production → Bool) → List Child → Bool
all_nodes ok [] = true
all_nodes ok (a_token ∷ w) = all_nodes ok w
all_nodes ok (a_node q ∷ w) = ok q && all_nodes ok w

pub nodes_append : (ok : Production → Bool) (xs ys : List Child) → all_nodes ok xs ≡ true → all_nodes ok ys ≡ true → all_nodes ok (xs ++ ys) ≡ true
nodes_append ok [] ys h k = k
nodes_append ok (a_token ∷ xs) ys h k = nodes_append ok xs ys h k
nodes_append ok (a_node q ∷ xs) ys h k =
    let both_ = and_parts (ok q) (all_nodes ok xs) h in
    and_from (ok q) (all_nodes ok (xs ++ ys)) both_.0 (nodes_append ok xs ys both_.1 k)

pub times_nodes : (ok : Production → Bool) (P : List Child → Type 0) → ((w : List Child) → P w → all_nodes ok w ≡ true) → (n : ℕ) (w : List Child) → AreTimes P n w → all_nodes ok w ≡ true
times_nodes ok P each zero w e = subst (λ (v : List Child). all_nodes ok v ≡ true) (sym e) refl
times_nodes ok P each (suc n) w (xs, ys, all, x, more) =
    subst (λ (v : List Child). all_nodes ok v ≡ true) (sym all) (nodes_append ok xs ys (each xs x) (times_nodes ok P each n ys more))

-- what stands for a part passes where the part does
abbrev pub Passes : (Production → Bool) → (Production → Bool) → Type 0
Passes okp ok = (p q : Production) → okp p ≡ true → StandsFor p q → ok q ≡ true

pub some_nodes : (okp ok : Production → Bool) → Passes okp ok → (a : Item) → parts_all okp a ≡ true → (w : List Child) → AreOfItem a w → all_nodes ok w ≡ true
some_nodes okp ok passes (one classes) h w e = subst (λ (v : List Child). all_nodes ok v ≡ true) (sym e) refl
some_nodes okp ok passes (part p) h w (q, e, stands) = subst (λ (v : List Child). all_nodes ok v ≡ true) (sym e) (and_from (ok q) true (passes p q h stands) refl)
some_nodes okp ok passes end_of_text h w e = subst (λ (v : List Child). all_nodes ok v ≡ true) (sym e) refl
some_nodes okp ok passes (act a) h w e = subst (λ (v : List Child). all_nodes ok v ≡ true) (sym e) refl
some_nodes okp ok passes (a · b) h w (xs, ys, all, x, y) =
    let both_ = and_parts (parts_all okp a) (parts_all okp b) h in
    subst (λ (v : List Child). all_nodes ok v ≡ true) (sym all)
    (nodes_append ok xs ys (some_nodes okp ok passes a both_.0 xs x) (some_nodes okp ok passes b both_.1 ys y))
some_nodes okp ok passes (choice a b) h w (inl x) = some_nodes okp ok passes a (and_parts (parts_all okp a) (parts_all okp b) h).0 w x
some_nodes okp ok passes (choice a b) h w (inr x) = some_nodes okp ok passes b (and_parts (parts_all okp a) (parts_all okp b) h).1 w x
some_nodes okp ok passes (maybe a) h w (inl x) = some_nodes okp ok passes a h w x
some_nodes okp ok passes (maybe a) h w (inr e) = subst (λ (v : List Child). all_nodes ok v ≡ true) (sym e) refl
some_nodes okp ok passes (many t a) h w (n, x) = times_nodes ok (AreOfItem a) (λ v y. some_nodes okp ok passes a h v y) n w x
some_nodes okp ok passes (deep a) h w x = some_nodes okp ok passes a h w x

-- what is true of each operand
abbrev pub OfOperands : (Production → Bool) → Type 0
OfOperands ok = (q : Production) → is_operand q ≡ true → ok q ≡ true

pub parts_nodes : (ok : Production → Bool) → OfOperands ok → (a : Item) → parts_all ok a ≡ true → (w : List Child) → AreOfItem a w → all_nodes ok w ≡ true
parts_nodes ok operands = some_nodes ok ok passes
  where
    passes : Passes ok ok
    passes p q h (inl same) = ap ok same ∙ h
    passes p q h (inr c) = operands q c.1

pub plain_nodes : (ok : Production → Bool) → (a : Item) → parts_all (plainly ok) a ≡ true → (w : List Child) → AreOfItem a w → all_nodes ok w ≡ true
plain_nodes ok = some_nodes (plainly ok) ok passes
  where
    passes : Passes (plainly ok) ok
    passes p q h (inl same) = ap ok same ∙ (and_parts (ok p) (not (collapses p)) h).0
    passes p q h (inr c) = absurd (false≢true (sym (ap not c.0) ∙ (and_parts (ok p) (not (collapses p)) h).1))

pub begins_token : (a : Item) → begins a ≡ true → (w : List Child) → AreOfItem a w → (v : List Child) × (w ≡ a_token ∷ v)
begins_token (one classes) h w e = ([], e)
begins_token (a · b) h w (xs, ys, all, x, y) =
    let first = begins_token a h xs x in
    (first.0 ++ ys, all ∙ ap (λ (v : List Child). v ++ ys) first.1)
begins_token (part p) h w x = absurd (false≢true h)
begins_token end_of_text h w x = absurd (false≢true h)
begins_token (act a) h w x = absurd (false≢true h)
begins_token (choice a b) h w x = absurd (false≢true h)
begins_token (maybe a) h w x = absurd (false≢true h)
begins_token (many t a) h w x = absurd (false≢true h)
begins_token (deep a) h w x = absurd (false≢true h)

pub table_row : (p : Production → Alternative → Bool) (q : Production) (rows : List Alternative) (k : ℕ) (a : Alternative) → list_all (p q) rows ≡ true → slice_get rows k ≡ Some a → p q a ≡ true
table_row p q [] k a all at = absurd (cc)
table_row p q (b ∷ rows) zero a all at = subst (λ (c : Alternative). p q c ≡ true) (same_Some b a at) (and_parts (p q b) (list_all (p q) rows) all).0
table_row p q (b ∷ rows) (suc k) a all at = table_row p q rows k a (and_parts (p q b) (list_all (p q) rows) all).1 at

-- ---- Operands

module _ (ok : Production → Bool) (given : ((((ok Expr && ok Assign) && (ok Cond && ok Lor)) && ((ok Land && ok Bor) && (ok Bxor && ok Band)))
    && (((ok Equal && ok Relate) && (ok Shift && ok Add)) && ((ok Mul && ok Cast) && (ok Unary && ok Primary)))) ≡ true) where
  abbrev first_half : Bool
  first_half = ((ok Expr && ok Assign) && (ok Cond && ok Lor)) && ((ok Land && ok Bor) && (ok Bxor && ok Band))

  abbrev second_half : Bool
  second_half = ((ok Equal && ok Relate) && (ok Shift && ok Add)) && ((ok Mul && ok Cast) && (ok Unary && ok Primary))

  left_of : (a b : Bool) → (a && b) ≡ true → a ≡ true
  left_of a b h = (and_parts a b h).0

  right_of : (a b : Bool) → (a && b) ≡ true → b ≡ true
  right_of a b h = (and_parts a b h).1

  halves : (first_half ≡ true) × (second_half ≡ true)
  halves = and_parts first_half second_half given

  quarter : (((ok Expr && ok Assign) && (ok Cond && ok Lor)) ≡ true) × (((ok Land && ok Bor) && (ok Bxor && ok Band)) ≡ true)
  quarter = and_parts ((ok Expr && ok Assign) && (ok Cond && ok Lor)) ((ok Land && ok Bor) && (ok Bxor && ok Band)) halves.0

  later : (((ok Equal && ok Relate) && (ok Shift && ok Add)) ≡ true) × (((ok Mul && ok Cast) && (ok Unary && ok Primary)) ≡ true)
  later = and_parts ((ok Equal && ok Relate) && (ok Shift && ok Add)) ((ok Mul && ok Cast) && (ok Unary && ok Primary)) halves.1

  pub operands_are : OfOperands ok
  operands_are Expr h = left_of (ok Expr) (ok Assign) (left_of (ok Expr && ok Assign) (ok Cond && ok Lor) quarter.0)
  operands_are Assign h = right_of (ok Expr) (ok Assign) (left_of (ok Expr && ok Assign) (ok Cond && ok Lor) quarter.0)
  operands_are Cond h = left_of (ok Cond) (ok Lor) (right_of (ok Expr && ok Assign) (ok Cond && ok Lor) quarter.0)
  operands_are Lor h = right_of (ok Cond) (ok Lor) (right_of (ok Expr && ok Assign) (ok Cond && ok Lor) quarter.0)
  operands_are Land h = left_of (ok Land) (ok Bor) (left_of (ok Land && ok Bor) (ok Bxor && ok Band) quarter.1)
  operands_are Bor h = right_of (ok Land) (ok Bor) (left_of (ok Land && ok Bor) (ok Bxor && ok Band) quarter.1)
  operands_are Bxor h = left_of (ok Bxor) (ok Band) (right_of (ok Land && ok Bor) (ok Bxor && ok Band) quarter.1)
  operands_are Band h = right_of (ok Bxor) (ok Band) (right_of (ok Land && ok Bor) (ok Bxor && ok Band) quarter.1)
  operands_are Equal h = left_of (ok Equal) (ok Relate) (left_of (ok Equal && ok Relate) (ok Shift && ok Add) later.0)
  operands_are Relate h = right_of (ok Equal) (ok Relate) (left_of (ok Equal && ok Relate) (ok Shift && ok Add) later.0)
  operands_are Shift h = left_of (ok Shift) (ok Add) (right_of (ok Equal && ok Relate) (ok Shift && ok Add) later.0)
  operands_are Add h = right_of (ok Shift) (ok Add) (right_of (ok Equal && ok Relate) (ok Shift && ok Add) later.0)
  operands_are Mul h = left_of (ok Mul) (ok Cast) (left_of (ok Mul && ok Cast) (ok Unary && ok Primary) later.1)
  operands_are Cast h = right_of (ok Mul) (ok Cast) (left_of (ok Mul && ok Cast) (ok Unary && ok Primary) later.1)
  operands_are Unary h = left_of (ok Unary) (ok Primary) (right_of (ok Mul && ok Cast) (ok Unary && ok Primary) later.1)
  operands_are Primary h = right_of (ok Unary) (ok Primary) (right_of (ok Mul && ok Cast) (ok Unary && ok Primary) later.1)
  operands_are _ h = absurd (false≢true h)
