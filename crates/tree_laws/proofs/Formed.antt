-- The table of each dialect is formed: what stands below its productions, and with what they begin. In those of the editions no
-- block stands in a declarator.
use Rattle.std.specs.Prelude.{◌≡◌, true, refl}
use Rattle.std.specs.List.{list_all}
use Rattle.c99_grammar.specs.declared.dialects.Dialect.{Dialect}
use Rattle.c99_grammar.specs.declared.dialects.Dialect.TheVariants.{Iso, Gnu}
use Rattle.c99_grammar.specs.declared.dialects.Edition.{Edition}
use Rattle.c99_tree.specs.declared.production.Production.{Production}
use Rattle.c99_tree.specs.declared.production.Production.TheVariants.{TranslationUnit, External, ExtRest, ExtTail, FunBody, Declaration, DeclRest, InitDecl, Sassert, Specs, Main, Mod, Qual, Word, StructSpec, SuRest, Members, Member, MemRest, Mdecl, EnumSpec, EnRest, Enumerators, Enumerator, Declarator, Pointer, Direct, Suffix, Bound, Params, Param, Pdecl, Pdirect, TypeName, Adecl, Adirect, Init, InitList, InitItem, Designator, Expr, Assign, Asgop, Cond, Lor, Land, Bor, Bxor, Band, Equal, Relate, Shift, Add, Mul, Cast, CastRest, Unary, SizeRest, SizeLit, Primary, Post, Args, Block, BlockItem, Statement, Sub, ForInit, AutoDecl, Attr, AttrItem, AttrWord, AsmName, Operand, Association, MemberPath, AsmPart, AsmOperand}
use Rattle.c99_grammar.specs.Standard.{iso, gnu, grammar}
use Rattle.c99_grammar.proofs.StandardLemmas.{by_edition}
use Rattle.tree_laws.specs.Shapes.{is_formed, IsFormed, is_plain, IsPlain}

module _ (std : Edition) where
  formed_iso : (p : Production) → list_all (is_formed p) ((iso std).table p) ≡ true
  formed_iso TranslationUnit = refl
  formed_iso External = by_edition (λ s. list_all (is_formed External) ((iso s).table External) ≡ true) refl refl std
  formed_iso ExtRest = refl
  formed_iso ExtTail = refl
  formed_iso FunBody = refl
  formed_iso Declaration = by_edition (λ s. list_all (is_formed Declaration) ((iso s).table Declaration) ≡ true) refl refl std
  formed_iso DeclRest = refl
  formed_iso InitDecl = refl
  formed_iso Sassert = by_edition (λ s. list_all (is_formed Sassert) ((iso s).table Sassert) ≡ true) refl refl std
  formed_iso Specs = refl
  formed_iso Main = refl
  formed_iso Mod = by_edition (λ s. list_all (is_formed Mod) ((iso s).table Mod) ≡ true) refl refl std
  formed_iso Qual = refl
  formed_iso Word = refl
  formed_iso StructSpec = refl
  formed_iso SuRest = refl
  formed_iso Members = refl
  formed_iso Member = by_edition (λ s. list_all (is_formed Member) ((iso s).table Member) ≡ true) refl refl std
  formed_iso MemRest = by_edition (λ s. list_all (is_formed MemRest) ((iso s).table MemRest) ≡ true) refl refl std
  formed_iso Mdecl = refl
  formed_iso EnumSpec = refl
  formed_iso EnRest = refl
  formed_iso Enumerators = refl
  formed_iso Enumerator = refl
  formed_iso Declarator = refl
  formed_iso Pointer = refl
  formed_iso Direct = refl
  formed_iso Suffix = refl
  formed_iso Bound = refl
  formed_iso Params = refl
  formed_iso Param = refl
  formed_iso Pdecl = refl
  formed_iso Pdirect = refl
  formed_iso TypeName = refl
  formed_iso Adecl = refl
  formed_iso Adirect = refl
  formed_iso Init = refl
  formed_iso InitList = refl
  formed_iso InitItem = refl
  formed_iso Designator = refl
  formed_iso Expr = refl
  formed_iso Assign = refl
  formed_iso Asgop = refl
  formed_iso Cond = refl
  formed_iso Lor = refl
  formed_iso Land = refl
  formed_iso Bor = refl
  formed_iso Bxor = refl
  formed_iso Band = refl
  formed_iso Equal = refl
  formed_iso Relate = refl
  formed_iso Shift = refl
  formed_iso Add = refl
  formed_iso Mul = refl
  formed_iso Cast = refl
  formed_iso CastRest = refl
  formed_iso Unary = refl
  formed_iso SizeRest = refl
  formed_iso SizeLit = refl
  formed_iso Primary = refl
  formed_iso Post = refl
  formed_iso Args = refl
  formed_iso Block = refl
  formed_iso BlockItem = refl
  formed_iso Statement = refl
  formed_iso Sub = refl
  formed_iso ForInit = refl
  formed_iso AutoDecl = refl
  formed_iso Attr = refl
  formed_iso AttrItem = refl
  formed_iso AttrWord = refl
  formed_iso AsmName = refl
  formed_iso Operand = refl
  formed_iso Association = refl
  formed_iso MemberPath = refl
  formed_iso AsmPart = refl
  formed_iso AsmOperand = refl

  plain_iso : (p : Production) → list_all (is_plain p) ((iso std).table p) ≡ true
  plain_iso TranslationUnit = refl
  plain_iso External = by_edition (λ s. list_all (is_plain External) ((iso s).table External) ≡ true) refl refl std
  plain_iso ExtRest = refl
  plain_iso ExtTail = refl
  plain_iso FunBody = refl
  plain_iso Declaration = by_edition (λ s. list_all (is_plain Declaration) ((iso s).table Declaration) ≡ true) refl refl std
  plain_iso DeclRest = refl
  plain_iso InitDecl = refl
  plain_iso Sassert = by_edition (λ s. list_all (is_plain Sassert) ((iso s).table Sassert) ≡ true) refl refl std
  plain_iso Specs = refl
  plain_iso Main = refl
  plain_iso Mod = by_edition (λ s. list_all (is_plain Mod) ((iso s).table Mod) ≡ true) refl refl std
  plain_iso Qual = refl
  plain_iso Word = refl
  plain_iso StructSpec = refl
  plain_iso SuRest = refl
  plain_iso Members = refl
  plain_iso Member = by_edition (λ s. list_all (is_plain Member) ((iso s).table Member) ≡ true) refl refl std
  plain_iso MemRest = by_edition (λ s. list_all (is_plain MemRest) ((iso s).table MemRest) ≡ true) refl refl std
  plain_iso Mdecl = refl
  plain_iso EnumSpec = refl
  plain_iso EnRest = refl
  plain_iso Enumerators = refl
  plain_iso Enumerator = refl
  plain_iso Declarator = refl
  plain_iso Pointer = refl
  plain_iso Direct = refl
  plain_iso Suffix = refl
  plain_iso Bound = refl
  plain_iso Params = refl
  plain_iso Param = refl
  plain_iso Pdecl = refl
  plain_iso Pdirect = refl
  plain_iso TypeName = refl
  plain_iso Adecl = refl
  plain_iso Adirect = refl
  plain_iso Init = refl
  plain_iso InitList = refl
  plain_iso InitItem = refl
  plain_iso Designator = refl
  plain_iso Expr = refl
  plain_iso Assign = refl
  plain_iso Asgop = refl
  plain_iso Cond = refl
  plain_iso Lor = refl
  plain_iso Land = refl
  plain_iso Bor = refl
  plain_iso Bxor = refl
  plain_iso Band = refl
  plain_iso Equal = refl
  plain_iso Relate = refl
  plain_iso Shift = refl
  plain_iso Add = refl
  plain_iso Mul = refl
  plain_iso Cast = refl
  plain_iso CastRest = refl
  plain_iso Unary = refl
  plain_iso SizeRest = refl
  plain_iso SizeLit = refl
  plain_iso Primary = refl
  plain_iso Post = refl
  plain_iso Args = refl
  plain_iso Block = refl
  plain_iso BlockItem = refl
  plain_iso Statement = refl
  plain_iso Sub = refl
  plain_iso ForInit = refl
  plain_iso AutoDecl = refl
  plain_iso Attr = refl
  plain_iso AttrItem = refl
  plain_iso AttrWord = refl
  plain_iso AsmName = refl
  plain_iso Operand = refl
  plain_iso Association = refl
  plain_iso MemberPath = refl
  plain_iso AsmPart = refl
  plain_iso AsmOperand = refl

  pub editions_plain : IsPlain (iso std)
  editions_plain = record { plain = plain_iso }

formed_gnu : (p : Production) → list_all (is_formed p) (gnu.table p) ≡ true
formed_gnu TranslationUnit = refl
formed_gnu External = refl
formed_gnu ExtRest = refl
formed_gnu ExtTail = refl
formed_gnu FunBody = refl
formed_gnu Declaration = refl
formed_gnu DeclRest = refl
formed_gnu InitDecl = refl
formed_gnu Sassert = refl
formed_gnu Specs = refl
formed_gnu Main = refl
formed_gnu Mod = refl
formed_gnu Qual = refl
formed_gnu Word = refl
formed_gnu StructSpec = refl
formed_gnu SuRest = refl
formed_gnu Members = refl
formed_gnu Member = refl
formed_gnu MemRest = refl
formed_gnu Mdecl = refl
formed_gnu EnumSpec = refl
formed_gnu EnRest = refl
formed_gnu Enumerators = refl
formed_gnu Enumerator = refl
formed_gnu Declarator = refl
formed_gnu Pointer = refl
formed_gnu Direct = refl
formed_gnu Suffix = refl
formed_gnu Bound = refl
formed_gnu Params = refl
formed_gnu Param = refl
formed_gnu Pdecl = refl
formed_gnu Pdirect = refl
formed_gnu TypeName = refl
formed_gnu Adecl = refl
formed_gnu Adirect = refl
formed_gnu Init = refl
formed_gnu InitList = refl
formed_gnu InitItem = refl
formed_gnu Designator = refl
formed_gnu Expr = refl
formed_gnu Assign = refl
formed_gnu Asgop = refl
formed_gnu Cond = refl
formed_gnu Lor = refl
formed_gnu Land = refl
formed_gnu Bor = refl
formed_gnu Bxor = refl
formed_gnu Band = refl
formed_gnu Equal = refl
formed_gnu Relate = refl
formed_gnu Shift = refl
formed_gnu Add = refl
formed_gnu Mul = refl
formed_gnu Cast = refl
formed_gnu CastRest = refl
formed_gnu Unary = refl
formed_gnu SizeRest = refl
formed_gnu SizeLit = refl
formed_gnu Primary = refl
formed_gnu Post = refl
formed_gnu Args = refl
formed_gnu Block = refl
formed_gnu BlockItem = refl
formed_gnu Statement = refl
formed_gnu Sub = refl
formed_gnu ForInit = refl
formed_gnu AutoDecl = refl
formed_gnu Attr = refl
formed_gnu AttrItem = refl
formed_gnu AttrWord = refl
formed_gnu AsmName = refl
formed_gnu Operand = refl
formed_gnu Association = refl
formed_gnu MemberPath = refl
formed_gnu AsmPart = refl
formed_gnu AsmOperand = refl

pub grammar_formed : (d : Dialect) → IsFormed (grammar d)
grammar_formed (Iso s) = record { formed = formed_iso s }
grammar_formed Gnu = record { formed = formed_gnu }
