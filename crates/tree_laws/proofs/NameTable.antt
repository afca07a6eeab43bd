-- In the table of each edition names stand where identifiers are read.
use Rattle.std.specs.Prelude.{ℕ, Bool, ◌≡◌, true, refl}
use Rattle.c99_grammar.specs.declared.dialects.Edition.{Edition}
use Rattle.c99_tree.specs.declared.production.Label.{Label}
use Rattle.c99_tree.specs.declared.production.Production.{Production}
use Rattle.c99_tree.specs.declared.production.Production.TheVariants.{TranslationUnit, External, ExtRest, ExtTail, FunBody, Declaration, DeclRest, InitDecl, Sassert, Specs, Main, Mod, Qual, Word, StructSpec, SuRest, Members, Member, MemRest, Mdecl, EnumSpec, EnRest, Enumerators, Enumerator, Declarator, Pointer, Direct, Suffix, Bound, Params, Param, Pdecl, Pdirect, TypeName, Adecl, Adirect, Init, InitList, InitItem, Designator, Expr, Assign, Asgop, Cond, Lor, Land, Bor, Bxor, Band, Equal, Relate, Shift, Add, Mul, Cast, CastRest, Unary, SizeRest, SizeLit, Primary, Post, Args, Block, BlockItem, Statement, Sub, ForInit, AutoDecl, Attr, AttrItem, AttrWord, AsmName, Operand, Association, MemberPath, AsmPart, AsmOperand}
use Rattle.c99_grammar.specs.Standard.{Grammar, iso}
use Rattle.c99_grammar.proofs.StandardLemmas.{by_edition}
use Rattle.c99_grammar.specs.Items.{Alternative}
use Rattle.tree_laws.specs.TreesOfTexts.{is_name_place}
use Rattle.tree_laws.proofs.Walked.{fit_from}
use Rattle.tree_laws.proofs.NamePlaces.{is_first, fits}

abbrev pub labelled : Production → ℕ → Label
labelled p n = record { production = p; alternative = n }

module _ (stands : Label → ℕ → Bool) where
  abbrev pub fits_at : Production → ℕ → Alternative → Bool
  fits_at p n a = fits stands (labelled p n) a.body is_first

  -- the rows of a grammar are so
  abbrev pub TableFits : Grammar → Type 0
  TableFits g = (p : Production) → fit_from (fits_at p) 1 (g.table p) ≡ true

module _ (std : Edition) where
  pub table_fits : (p : Production) → fit_from (fits_at is_name_place p) 1 ((iso std).table p) ≡ true
  table_fits TranslationUnit = refl
  table_fits External = by_edition (λ s. fit_from (fits_at is_name_place External) 1 ((iso s).table External) ≡ true) refl refl std
  table_fits ExtRest = refl
  table_fits ExtTail = refl
  table_fits FunBody = refl
  table_fits Declaration = by_edition (λ s. fit_from (fits_at is_name_place Declaration) 1 ((iso s).table Declaration) ≡ true) refl refl std
  table_fits DeclRest = refl
  table_fits InitDecl = refl
  table_fits Sassert = by_edition (λ s. fit_from (fits_at is_name_place Sassert) 1 ((iso s).table Sassert) ≡ true) refl refl std
  table_fits Specs = refl
  table_fits Main = refl
  table_fits Mod = by_edition (λ s. fit_from (fits_at is_name_place Mod) 1 ((iso s).table Mod) ≡ true) refl refl std
  table_fits Qual = refl
  table_fits Word = refl
  table_fits StructSpec = refl
  table_fits SuRest = refl
  table_fits Members = refl
  table_fits Member = by_edition (λ s. fit_from (fits_at is_name_place Member) 1 ((iso s).table Member) ≡ true) refl refl std
  table_fits MemRest = by_edition (λ s. fit_from (fits_at is_name_place MemRest) 1 ((iso s).table MemRest) ≡ true) refl refl std
  table_fits Mdecl = refl
  table_fits EnumSpec = refl
  table_fits EnRest = refl
  table_fits Enumerators = refl
  table_fits Enumerator = refl
  table_fits Declarator = refl
  table_fits Pointer = refl
  table_fits Direct = refl
  table_fits Suffix = refl
  table_fits Bound = refl
  table_fits Params = refl
  table_fits Param = refl
  table_fits Pdecl = refl
  table_fits Pdirect = refl
  table_fits TypeName = refl
  table_fits Adecl = refl
  table_fits Adirect = refl
  table_fits Init = refl
  table_fits InitList = refl
  table_fits InitItem = refl
  table_fits Designator = refl
  table_fits Expr = refl
  table_fits Assign = refl
  table_fits Asgop = refl
  table_fits Cond = refl
  table_fits Lor = refl
  table_fits Land = refl
  table_fits Bor = refl
  table_fits Bxor = refl
  table_fits Band = refl
  table_fits Equal = refl
  table_fits Relate = refl
  table_fits Shift = refl
  table_fits Add = refl
  table_fits Mul = refl
  table_fits Cast = refl
  table_fits CastRest = refl
  table_fits Unary = refl
  table_fits SizeRest = refl
  table_fits SizeLit = refl
  table_fits Primary = refl
  table_fits Post = refl
  table_fits Args = refl
  table_fits Block = refl
  table_fits BlockItem = refl
  table_fits Statement = refl
  table_fits Sub = refl
  table_fits ForInit = refl
  table_fits AutoDecl = refl
  table_fits Attr = refl
  table_fits AttrItem = refl
  table_fits AttrWord = refl
  table_fits AsmName = refl
  table_fits Operand = refl
  table_fits Association = refl
  table_fits MemberPath = refl
  table_fits AsmPart = refl
  table_fits AsmOperand = refl
