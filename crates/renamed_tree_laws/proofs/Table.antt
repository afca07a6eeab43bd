-- The table of moods belongs to the grammar.
use Rattle.std.proofs.Common.{◌≡◌, true, refl}
use Rattle.c99_grammar.specs.declared.dialects.Dialect.{Dialect}
use Rattle.c99_grammar.specs.declared.dialects.Dialect.TheVariants.{Iso}
use Rattle.c99_tree.specs.declared.production.Production.{Production}
use Rattle.c99_tree.specs.declared.production.Production.TheVariants.{TranslationUnit, External, ExtRest, ExtTail, FunBody, Declaration, DeclRest, InitDecl, Sassert, Specs, Main, Mod, Qual, Word, StructSpec, SuRest, Members, Member, MemRest, Mdecl, EnumSpec, EnRest, Enumerators, Enumerator, Declarator, Pointer, Direct, Suffix, Bound, Params, Param, Pdecl, Pdirect, TypeName, Adecl, Adirect, Init, InitList, InitItem, Designator, Expr, Assign, Asgop, Cond, Lor, Land, Bor, Bxor, Band, Equal, Relate, Shift, Add, Mul, Cast, CastRest, Unary, SizeRest, SizeLit, Primary, Post, Args, Block, BlockItem, Statement, Sub, ForInit, AutoDecl, Attr, AttrItem, AttrWord, AsmName, Operand, Association, MemberPath, AsmPart, AsmOperand}
use Rattle.c99_grammar.proofs.StandardLemmas.{by_edition, by_dialect}
use Rattle.renamed_tree_laws.proofs.Moods.{is_production_known}

abbrev IsKnown : Production → Dialect → Type 0
IsKnown p d = is_production_known d p ≡ true

module _ (std : Dialect) where
  pub production_known : (p : Production) → is_production_known std p ≡ true
  production_known TranslationUnit = by_dialect (IsKnown TranslationUnit) (by_edition (λ s. IsKnown TranslationUnit (Iso s)) refl refl) refl std
  production_known External = by_dialect (IsKnown External) (by_edition (λ s. IsKnown External (Iso s)) refl refl) refl std
  production_known ExtRest = by_dialect (IsKnown ExtRest) (by_edition (λ s. IsKnown ExtRest (Iso s)) refl refl) refl std
  production_known ExtTail = by_dialect (IsKnown ExtTail) (by_edition (λ s. IsKnown ExtTail (Iso s)) refl refl) refl std
  production_known FunBody = by_dialect (IsKnown FunBody) (by_edition (λ s. IsKnown FunBody (Iso s)) refl refl) refl std
  production_known Declaration = by_dialect (IsKnown Declaration) (by_edition (λ s. IsKnown Declaration (Iso s)) refl refl) refl std
  production_known DeclRest = by_dialect (IsKnown DeclRest) (by_edition (λ s. IsKnown DeclRest (Iso s)) refl refl) refl std
  production_known InitDecl = by_dialect (IsKnown InitDecl) (by_edition (λ s. IsKnown InitDecl (Iso s)) refl refl) refl std
  production_known Sassert = by_dialect (IsKnown Sassert) (by_edition (λ s. IsKnown Sassert (Iso s)) refl refl) refl std
  production_known Specs = by_dialect (IsKnown Specs) (by_edition (λ s. IsKnown Specs (Iso s)) refl refl) refl std
  production_known Main = by_dialect (IsKnown Main) (by_edition (λ s. IsKnown Main (Iso s)) refl refl) refl std
  production_known Mod = by_dialect (IsKnown Mod) (by_edition (λ s. IsKnown Mod (Iso s)) refl refl) refl std
  production_known Qual = by_dialect (IsKnown Qual) (by_edition (λ s. IsKnown Qual (Iso s)) refl refl) refl std
  production_known Word = by_dialect (IsKnown Word) (by_edition (λ s. IsKnown Word (Iso s)) refl refl) refl std
  production_known StructSpec = by_dialect (IsKnown StructSpec) (by_edition (λ s. IsKnown StructSpec (Iso s)) refl refl) refl std
  production_known SuRest = by_dialect (IsKnown SuRest) (by_edition (λ s. IsKnown SuRest (Iso s)) refl refl) refl std
  production_known Members = by_dialect (IsKnown Members) (by_edition (λ s. IsKnown Members (Iso s)) refl refl) refl std
  production_known Member = by_dialect (IsKnown Member) (by_edition (λ s. IsKnown Member (Iso s)) refl refl) refl std
  production_known MemRest = by_dialect (IsKnown MemRest) (by_edition (λ s. IsKnown MemRest (Iso s)) refl refl) refl std
  production_known Mdecl = by_dialect (IsKnown Mdecl) (by_edition (λ s. IsKnown Mdecl (Iso s)) refl refl) refl std
  production_known EnumSpec = by_dialect (IsKnown EnumSpec) (by_edition (λ s. IsKnown EnumSpec (Iso s)) refl refl) refl std
  production_known EnRest = by_dialect (IsKnown EnRest) (by_edition (λ s. IsKnown EnRest (Iso s)) refl refl) refl std
  production_known Enumerators = by_dialect (IsKnown Enumerators) (by_edition (λ s. IsKnown Enumerators (Iso s)) refl refl) refl std
  production_known Enumerator = by_dialect (IsKnown Enumerator) (by_edition (λ s. IsKnown Enumerator (Iso s)) refl refl) refl std
  production_known Declarator = by_dialect (IsKnown Declarator) (by_edition (λ s. IsKnown Declarator (Iso s)) refl refl) refl std
  production_known Pointer = by_dialect (IsKnown Pointer) (by_edition (λ s. IsKnown Pointer (Iso s)) refl refl) refl std
  production_known Direct = by_dialect (IsKnown Direct) (by_edition (λ s. IsKnown Direct (Iso s)) refl refl) refl std
  production_known Suffix = by_dialect (IsKnown Suffix) (by_edition (λ s. IsKnown Suffix (Iso s)) refl refl) refl std
  production_known Bound = by_dialect (IsKnown Bound) (by_edition (λ s. IsKnown Bound (Iso s)) refl refl) refl std
  production_known Params = by_dialect (IsKnown Params) (by_edition (λ s. IsKnown Params (Iso s)) refl refl) refl std
  production_known Param = by_dialect (IsKnown Param) (by_edition (λ s. IsKnown Param (Iso s)) refl refl) refl std
  production_known Pdecl = by_dialect (IsKnown Pdecl) (by_edition (λ s. IsKnown Pdecl (Iso s)) refl refl) refl std
  production_known Pdirect = by_dialect (IsKnown Pdirect) (by_edition (λ s. IsKnown Pdirect (Iso s)) refl refl) refl std
  production_known TypeName = by_dialect (IsKnown TypeName) (by_edition (λ s. IsKnown TypeName (Iso s)) refl refl) refl std
  production_known Adecl = by_dialect (IsKnown Adecl) (by_edition (λ s. IsKnown Adecl (Iso s)) refl refl) refl std
  production_known Adirect = by_dialect (IsKnown Adirect) (by_edition (λ s. IsKnown Adirect (Iso s)) refl refl) refl std
  production_known Init = by_dialect (IsKnown Init) (by_edition (λ s. IsKnown Init (Iso s)) refl refl) refl std
  production_known InitList = by_dialect (IsKnown InitList) (by_edition (λ s. IsKnown InitList (Iso s)) refl refl) refl std
  production_known InitItem = by_dialect (IsKnown InitItem) (by_edition (λ s. IsKnown InitItem (Iso s)) refl refl) refl std
  production_known Designator = by_dialect (IsKnown Designator) (by_edition (λ s. IsKnown Designator (Iso s)) refl refl) refl std
  production_known Expr = by_dialect (IsKnown Expr) (by_edition (λ s. IsKnown Expr (Iso s)) refl refl) refl std
  production_known Assign = by_dialect (IsKnown Assign) (by_edition (λ s. IsKnown Assign (Iso s)) refl refl) refl std
  production_known Asgop = by_dialect (IsKnown Asgop) (by_edition (λ s. IsKnown Asgop (Iso s)) refl refl) refl std
  production_known Cond = by_dialect (IsKnown Cond) (by_edition (λ s. IsKnown Cond (Iso s)) refl refl) refl std
  production_known Lor = by_dialect (IsKnown Lor) (by_edition (λ s. IsKnown Lor (Iso s)) refl refl) refl std
  production_known Land = by_dialect (IsKnown Land) (by_edition (λ s. IsKnown Land (Iso s)) refl refl) refl std
  production_known Bor = by_dialect (IsKnown Bor) (by_edition (λ s. IsKnown Bor (Iso s)) refl refl) refl std
  production_known Bxor = by_dialect (IsKnown Bxor) (by_edition (λ s. IsKnown Bxor (Iso s)) refl refl) refl std
  production_known Band = by_dialect (IsKnown Band) (by_edition (λ s. IsKnown Band (Iso s)) refl refl) refl std
  production_known Equal = by_dialect (IsKnown Equal) (by_edition (λ s. IsKnown Equal (Iso s)) refl refl) refl std
  production_known Relate = by_dialect (IsKnown Relate) (by_edition (λ s. IsKnown Relate (Iso s)) refl refl) refl std
  production_known Shift = by_dialect (IsKnown Shift) (by_edition (λ s. IsKnown Shift (Iso s)) refl refl) refl std
  production_known Add = by_dialect (IsKnown Add) (by_edition (λ s. IsKnown Add (Iso s)) refl refl) refl std
  production_known Mul = by_dialect (IsKnown Mul) (by_edition (λ s. IsKnown Mul (Iso s)) refl refl) refl std
  production_known Cast = by_dialect (IsKnown Cast) (by_edition (λ s. IsKnown Cast (Iso s)) refl refl) refl std
  production_known CastRest = by_dialect (IsKnown CastRest) (by_edition (λ s. IsKnown CastRest (Iso s)) refl refl) refl std
  production_known Unary = by_dialect (IsKnown Unary) (by_edition (λ s. IsKnown Unary (Iso s)) refl refl) refl std
  production_known SizeRest = by_dialect (IsKnown SizeRest) (by_edition (λ s. IsKnown SizeRest (Iso s)) refl refl) refl std
  production_known SizeLit = by_dialect (IsKnown SizeLit) (by_edition (λ s. IsKnown SizeLit (Iso s)) refl refl) refl std
  production_known Primary = by_dialect (IsKnown Primary) (by_edition (λ s. IsKnown Primary (Iso s)) refl refl) refl std
  production_known Post = by_dialect (IsKnown Post) (by_edition (λ s. IsKnown Post (Iso s)) refl refl) refl std
  production_known Args = by_dialect (IsKnown Args) (by_edition (λ s. IsKnown Args (Iso s)) refl refl) refl std
  production_known Block = by_dialect (IsKnown Block) (by_edition (λ s. IsKnown Block (Iso s)) refl refl) refl std
  production_known BlockItem = by_dialect (IsKnown BlockItem) (by_edition (λ s. IsKnown BlockItem (Iso s)) refl refl) refl std
  production_known Statement = by_dialect (IsKnown Statement) (by_edition (λ s. IsKnown Statement (Iso s)) refl refl) refl std
  production_known Sub = by_dialect (IsKnown Sub) (by_edition (λ s. IsKnown Sub (Iso s)) refl refl) refl std
  production_known ForInit = by_dialect (IsKnown ForInit) (by_edition (λ s. IsKnown ForInit (Iso s)) refl refl) refl std
  production_known AutoDecl = by_dialect (IsKnown AutoDecl) (by_edition (λ s. IsKnown AutoDecl (Iso s)) refl refl) refl std
  production_known Attr = by_dialect (IsKnown Attr) (by_edition (λ s. IsKnown Attr (Iso s)) refl refl) refl std
  production_known AttrItem = by_dialect (IsKnown AttrItem) (by_edition (λ s. IsKnown AttrItem (Iso s)) refl refl) refl std
  production_known AttrWord = by_dialect (IsKnown AttrWord) (by_edition (λ s. IsKnown AttrWord (Iso s)) refl refl) refl std
  production_known AsmName = by_dialect (IsKnown AsmName) (by_edition (λ s. IsKnown AsmName (Iso s)) refl refl) refl std
  production_known Operand = by_dialect (IsKnown Operand) (by_edition (λ s. IsKnown Operand (Iso s)) refl refl) refl std
  production_known Association = by_dialect (IsKnown Association) (by_edition (λ s. IsKnown Association (Iso s)) refl refl) refl std
  production_known MemberPath = by_dialect (IsKnown MemberPath) (by_edition (λ s. IsKnown MemberPath (Iso s)) refl refl) refl std
  production_known AsmPart = by_dialect (IsKnown AsmPart) (by_edition (λ s. IsKnown AsmPart (Iso s)) refl refl) refl std
  production_known AsmOperand = by_dialect (IsKnown AsmOperand) (by_edition (λ s. IsKnown AsmOperand (Iso s)) refl refl) refl std
