-- What the table of each edition says of parameters, of their lists, and of external declarations.
use Rattle.std.proofs.Common.{◌≡◌, ℕ, zero, suc, Bool, true, false, ◌&&◌, ◌||◌, Some, refl, sym, ap, subst, ◌∙◌, arith}
use Rattle.std.specs.Prelude.{slice_get}
use Rattle.std.specs.List.{list_all}
use Rattle.std.proofs.lemmas.Bool.{false≢true, and_parts}
use Rattle.std.proofs.lemmas.Option.{same_Some}
use Rattle.cs_base.proofs.BoolLemmas.{or_other}
use Rattle.c99_grammar.specs.declared.dialects.Edition.{Edition}
use Rattle.c99_tree.specs.Tree.{Forest}
use Rattle.c99_tree.specs.declared.production.Label.{Label}
use Rattle.c99_tree.specs.declared.production.Production.{Production}
use Rattle.c99_tree.specs.declared.production.Production.TheVariants.{TranslationUnit, External, ExtRest, ExtTail, FunBody, Declaration, DeclRest, InitDecl, Sassert, Specs, Main, Mod, Qual, Word, StructSpec, SuRest, Members, Member, MemRest, Mdecl, EnumSpec, EnRest, Enumerators, Enumerator, Declarator, Pointer, Direct, Suffix, Bound, Params, Param, Pdecl, Pdirect, TypeName, Adecl, Adirect, Init, InitList, InitItem, Designator, Expr, Assign, Asgop, Cond, Lor, Land, Bor, Bxor, Band, Equal, Relate, Shift, Add, Mul, Cast, CastRest, Unary, SizeRest, SizeLit, Primary, Post, Args, Block, BlockItem, Statement, Sub, ForInit, AutoDecl, Attr, AttrItem, AttrWord, AsmName, Operand, Association, MemberPath, AsmPart, AsmOperand}
use Rattle.c99_grammar.specs.Items.{Alternative}
use Rattle.c99_grammar.specs.Standard.{iso}
use Rattle.c99_grammar.proofs.StandardLemmas.{by_edition}
use Rattle.c_types.specs.Trees.{is_list}
use Rattle.tree_laws.specs.Shapes.{parts_all}
use Rattle.template_meaning.specs.Children.{children, IsOfAlternative}
use Rattle.template_meaning.proofs.FitTable.{not_these, all_nodes, parts_nodes, table_row, operands_are}
use Rattle.template_meaning.proofs.Forms.{is_param}

abbrev pub is_params : Production → Bool
is_params Params = true
is_params _ = false

abbrev pub is_suffix : Production → Bool
is_suffix Suffix = true
is_suffix _ = false

-- a unit, and an external declaration with its rest
abbrev pub is_top : Production → Bool
is_top TranslationUnit = true
is_top External = true
is_top ExtRest = true
is_top _ = false

-- what has such parts
abbrev pub is_upper : Production → Bool
is_upper TranslationUnit = true
is_upper External = true
is_upper _ = false

abbrev row_lists : Production → Alternative → Bool
row_lists p a =
    (is_params p || parts_all (not_these is_param) a.body) && ((is_suffix p || parts_all (not_these is_params) a.body) && (is_upper p || parts_all (not_these is_top) a.body))

module _ (std : Edition) where
  lists_at : (p : Production) → list_all (row_lists p) ((iso std).table p) ≡ true
  lists_at TranslationUnit = refl
  lists_at External = by_edition (λ s. list_all (row_lists External) ((iso s).table External) ≡ true) refl refl std
  lists_at ExtRest = refl
  lists_at ExtTail = refl
  lists_at FunBody = refl
  lists_at Declaration = by_edition (λ s. list_all (row_lists Declaration) ((iso s).table Declaration) ≡ true) refl refl std
  lists_at DeclRest = refl
  lists_at InitDecl = refl
  lists_at Sassert = by_edition (λ s. list_all (row_lists Sassert) ((iso s).table Sassert) ≡ true) refl refl std
  lists_at Specs = refl
  lists_at Main = refl
  lists_at Mod = by_edition (λ s. list_all (row_lists Mod) ((iso s).table Mod) ≡ true) refl refl std
  lists_at Qual = refl
  lists_at Word = refl
  lists_at StructSpec = refl
  lists_at SuRest = refl
  lists_at Members = refl
  lists_at Member = by_edition (λ s. list_all (row_lists Member) ((iso s).table Member) ≡ true) refl refl std
  lists_at MemRest = by_edition (λ s. list_all (row_lists MemRest) ((iso s).table MemRest) ≡ true) refl refl std
  lists_at Mdecl = refl
  lists_at EnumSpec = refl
  lists_at EnRest = refl
  lists_at Enumerators = refl
  lists_at Enumerator = refl
  lists_at Declarator = refl
  lists_at Pointer = refl
  lists_at Direct = refl
  lists_at Suffix = refl
  lists_at Bound = refl
  lists_at Params = refl
  lists_at Param = refl
  lists_at Pdecl = refl
  lists_at Pdirect = refl
  lists_at TypeName = refl
  lists_at Adecl = refl
  lists_at Adirect = refl
  lists_at Init = refl
  lists_at InitList = refl
  lists_at InitItem = refl
  lists_at Designator = refl
  lists_at Expr = refl
  lists_at Assign = refl
  lists_at Asgop = refl
  lists_at Cond = refl
  lists_at Lor = refl
  lists_at Land = refl
  lists_at Bor = refl
  lists_at Bxor = refl
  lists_at Band = refl
  lists_at Equal = refl
  lists_at Relate = refl
  lists_at Shift = refl
  lists_at Add = refl
  lists_at Mul = refl
  lists_at Cast = refl
  lists_at CastRest = refl
  lists_at Unary = refl
  lists_at SizeRest = refl
  lists_at SizeLit = refl
  lists_at Primary = refl
  lists_at Post = refl
  lists_at Args = refl
  lists_at Block = refl
  lists_at BlockItem = refl
  lists_at Statement = refl
  lists_at Sub = refl
  lists_at ForInit = refl
  lists_at AutoDecl = refl
  lists_at Attr = refl
  lists_at AttrItem = refl
  lists_at AttrWord = refl
  lists_at AsmName = refl
  lists_at Operand = refl
  lists_at Association = refl
  lists_at MemberPath = refl
  lists_at AsmPart = refl
  lists_at AsmOperand = refl

module _ (s : Edition) (l : Label) (under : Forest) (x : IsOfAlternative (iso s) l under) where
  abbrev p : Production
  p = l.production

  row : row_lists p x.alternative ≡ true
  row = table_row row_lists p ((iso s).table p) x.number x.alternative (lists_at s p) x.is_one

  rows : ((is_suffix p || parts_all (not_these is_params) x.alternative.body) && (is_upper p || parts_all (not_these is_top) x.alternative.body)) ≡ true
  rows = (and_parts (is_params p || parts_all (not_these is_param) x.alternative.body) _ row).1

  -- parameters stand in parameter lists alone
  pub no_params : is_params p ≡ false → all_nodes (not_these is_param) (children under) ≡ true
  no_params e =
      parts_nodes (not_these is_param) (operands_are (not_these is_param) refl) x.alternative.body
      (or_other (is_params p) _ (and_parts (is_params p || parts_all (not_these is_param) x.alternative.body) _ row).0 e) (children under) x.own

  free_suffix : is_suffix p ≡ false → all_nodes (not_these is_params) (children under) ≡ true
  free_suffix e =
      parts_nodes (not_these is_params) (operands_are (not_these is_params) refl) x.alternative.body
      (or_other (is_suffix p) _ (and_parts (is_suffix p || parts_all (not_these is_params) x.alternative.body) _ rows).0 e) (children under) x.own

  suffix_named : (q : Production) → is_suffix q ≡ true → q ≡ Suffix
  suffix_named Suffix e = refl
  suffix_named _ e = absurd (false≢true e)

  list_label : (q : Production) (n : ℕ) → q ≡ Suffix → n ≡ 2 → is_list (record { production = q; alternative = n }) ≡ true
  list_label q n e h =
      ap (λ (r : Production). is_list (record { production = r; alternative = n })) e ∙ ap (λ (m : ℕ). is_list (record { production = Suffix; alternative = m })) h

  array_parts : (n : ℕ) (a : Alternative) → slice_get ((iso s).table Suffix) n ≡ Some a → (n ≡ 1 → false ≡ true) → parts_all (not_these is_params) a.body ≡ true
  array_parts zero a at differs = subst (λ (b : Alternative). parts_all (not_these is_params) b.body ≡ true) (same_Some _ a at) refl
  array_parts (suc zero) a at differs = absurd (false≢true (differs refl))
  array_parts (suc (suc n)) a at differs = absurd (cc)

  -- .. and these in the parentheses of a declarator alone
  pub no_lists_here : is_list l ≡ false → all_nodes (not_these is_params) (children under) ≡ true
  no_lists_here e = by (is_suffix p) refl
    where
      by : (b : Bool) → is_suffix p ≡ b → all_nodes (not_these is_params) (children under) ≡ true
      by false h = free_suffix h
      by true h =
          let named = suffix_named p h in
          let at : slice_get ((iso s).table Suffix) x.number ≡ Some x.alternative = sym (ap (λ (q : Production). slice_get ((iso s).table q) x.number) named) ∙ x.is_one in
          parts_nodes (not_these is_params) (operands_are (not_these is_params) refl) x.alternative.body
          (array_parts x.number x.alternative at (λ one_. sym e ∙ list_label p l.alternative named (omega (arith, one_, x.numbered)))) (children under) x.own

  -- no external declaration but in a unit
  pub no_tops : is_upper p ≡ false → all_nodes (not_these is_top) (children under) ≡ true
  no_tops e =
      parts_nodes (not_these is_top) (operands_are (not_these is_top) refl) x.alternative.body
      (or_other (is_upper p) _ (and_parts (is_suffix p || parts_all (not_these is_params) x.alternative.body) (is_upper p || parts_all (not_these is_top) x.alternative.body) rows).1 e)
      (children under) x.own
