-- In the table of each edition the tests of items say the same at a parenthesis, whatever stands behind it.
use Rattle.std.proofs.Common.{◌≡◌, true, refl}
use Rattle.std.specs.List.{list_all}
use Rattle.c99_grammar.specs.declared.dialects.Edition.{Edition}
use Rattle.c99_tree.specs.declared.production.Production.{Production}
use Rattle.c99_tree.specs.declared.production.Production.TheVariants.{TranslationUnit, External, ExtRest, ExtTail, FunBody, Declaration, DeclRest, InitDecl, Sassert, Specs, Main, Mod, Qual, Word, StructSpec, SuRest, Members, Member, MemRest, Mdecl, EnumSpec, EnRest, Enumerators, Enumerator, Declarator, Pointer, Direct, Suffix, Bound, Params, Param, Pdecl, Pdirect, TypeName, Adecl, Adirect, Init, InitList, InitItem, Designator, Expr, Assign, Asgop, Cond, Lor, Land, Bor, Bxor, Band, Equal, Relate, Shift, Add, Mul, Cast, CastRest, Unary, SizeRest, SizeLit, Primary, Post, Args, Block, BlockItem, Statement, Sub, ForInit, AutoDecl, Attr, AttrItem, AttrWord, AsmName, Operand, Association, MemberPath, AsmPart, AsmOperand}
use Rattle.c99_grammar.specs.Standard.{iso}
use Rattle.c99_grammar.proofs.StandardLemmas.{by_edition}
use Rattle.reordered_text_laws.proofs.Free.{tests_free}

module _ (std : Edition) where
  pub tests : (p : Production) → list_all (λ a. tests_free (iso std) a.body) ((iso std).table p) ≡ true
  tests TranslationUnit = refl
  tests External = by_edition (λ s. list_all (λ a. tests_free (iso s) a.body) ((iso s).table External) ≡ true) refl refl std
  tests ExtRest = refl
  tests ExtTail = refl
  tests FunBody = refl
  tests Declaration = by_edition (λ s. list_all (λ a. tests_free (iso s) a.body) ((iso s).table Declaration) ≡ true) refl refl std
  tests DeclRest = refl
  tests InitDecl = refl
  tests Sassert = by_edition (λ s. list_all (λ a. tests_free (iso s) a.body) ((iso s).table Sassert) ≡ true) refl refl std
  tests Specs = refl
  tests Main = refl
  tests Mod = by_edition (λ s. list_all (λ a. tests_free (iso s) a.body) ((iso s).table Mod) ≡ true) refl refl std
  tests Qual = refl
  tests Word = refl
  tests StructSpec = refl
  tests SuRest = refl
  tests Members = refl
  tests Member = by_edition (λ s. list_all (λ a. tests_free (iso s) a.body) ((iso s).table Member) ≡ true) refl refl std
  tests MemRest = by_edition (λ s. list_all (λ a. tests_free (iso s) a.body) ((iso s).table MemRest) ≡ true) refl refl std
  tests Mdecl = refl
  tests EnumSpec = refl
  tests EnRest = refl
  tests Enumerators = refl
  tests Enumerator = refl
  tests Declarator = refl
  tests Pointer = refl
  tests Direct = refl
  tests Suffix = refl
  tests Bound = refl
  tests Params = refl
  tests Param = refl
  tests Pdecl = refl
  tests Pdirect = refl
  tests TypeName = refl
  tests Adecl = refl
  tests Adirect = refl
  tests Init = refl
  tests InitList = refl
  tests InitItem = refl
  tests Designator = refl
  tests Expr = refl
  tests Assign = refl
  tests Asgop = refl
  tests Cond = refl
  tests Lor = refl
  tests Land = refl
  tests Bor = refl
  tests Bxor = refl
  tests Band = refl
  tests Equal = refl
  tests Relate = refl
  tests Shift = refl
  tests Add = refl
  tests Mul = refl
  tests Cast = refl
  tests CastRest = refl
  tests Unary = refl
  tests SizeRest = refl
  tests SizeLit = refl
  tests Primary = refl
  tests Post = refl
  tests Args = refl
  tests Block = refl
  tests BlockItem = refl
  tests Statement = refl
  tests Sub = refl
  tests ForInit = refl
  tests AutoDecl = refl
  tests Attr = refl
  tests AttrItem = refl
  tests AttrWord = refl
  tests AsmName = refl
  tests Operand = refl
  tests Association = refl
  tests MemberPath = refl
  tests AsmPart = refl
  tests AsmOperand = refl
