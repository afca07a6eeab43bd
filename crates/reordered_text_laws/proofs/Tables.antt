-- In the table of each dialect items of lists end before a comma and before the parenthesis that ends the list alike.
use Rattle.std.proofs.Common.{◌≡◌, Bool, true, false, refl}
use Rattle.std.specs.List.{list_all}
use Rattle.std.proofs.lemmas.Bool.{false≢true}
use Rattle.c99_grammar.specs.declared.dialects.Dialect.{Dialect}
use Rattle.c99_grammar.specs.declared.dialects.Dialect.TheVariants.{Iso}
use Rattle.c99_tree.specs.declared.production.Production.{Production}
use Rattle.c99_tree.specs.declared.production.Production.TheVariants.{TranslationUnit, External, ExtRest, ExtTail, FunBody, Declaration, DeclRest, InitDecl, Sassert, Specs, Main, Mod, Qual, Word, StructSpec, SuRest, Members, Member, MemRest, Mdecl, EnumSpec, EnRest, Enumerators, Enumerator, Declarator, Pointer, Direct, Suffix, Bound, Params, Param, Pdecl, Pdirect, TypeName, Adecl, Adirect, Init, InitList, InitItem, Designator, Expr, Assign, Asgop, Cond, Lor, Land, Bor, Bxor, Band, Equal, Relate, Shift, Add, Mul, Cast, CastRest, Unary, SizeRest, SizeLit, Primary, Post, Args, Block, BlockItem, Statement, Sub, ForInit, AutoDecl, Attr, AttrItem, AttrWord, AsmName, Operand, Association, MemberPath, AsmPart, AsmOperand}
use Rattle.c99_grammar.specs.Standard.{grammar}
use Rattle.c99_grammar.proofs.StandardLemmas.{by_edition, by_dialect}
use Rattle.c99_read.proofs.C99Sound.{grammar-sound}
use Rattle.c99_read.specs.Sound.{never_empty}
use Rattle.reordered_text_laws.proofs.Stops.{alternative_alike, closes}
use Rattle.reordered_text_laws.proofs.Local.{Tells}

-- the productions that may end an argument or a parameter
abbrev pub ending : Production → Bool
ending Assign = true
ending Cond = true
ending Lor = true
ending Land = true
ending Bor = true
ending Bxor = true
ending Band = true
ending Equal = true
ending Relate = true
ending Shift = true
ending Add = true
ending Mul = true
ending Cast = true
ending CastRest = true
ending Unary = true
ending SizeRest = true
ending SizeLit = true
ending Primary = true
ending Post = true
ending Param = true
ending Specs = true
ending Main = true
ending Mod = true
ending Qual = true
ending Word = true
ending StructSpec = true
ending SuRest = true
ending EnumSpec = true
ending EnRest = true
ending Pdecl = true
ending Pdirect = true
ending Pointer = true
ending Suffix = true
ending Attr = true
ending Operand = true
ending _ = false

abbrev Alike : Production → Dialect → Type 0
Alike p d = list_all (alternative_alike (grammar d)) ((grammar d).table p) ≡ true

abbrev Closing : Production → Dialect → Type 0
Closing p d = list_all (λ a. closes (grammar d) ending a.body) ((grammar d).table p) ≡ true

module _ (std : Dialect) where
  alike : (p : Production) → never_empty p ≡ true → Alike p std
  alike TranslationUnit e = absurd (false≢true e)
  alike External e = by_dialect (Alike External) (by_edition (λ s. Alike External (Iso s)) refl refl) refl std
  alike ExtRest e = by_dialect (Alike ExtRest) (λ s. refl) refl std
  alike ExtTail e = by_dialect (Alike ExtTail) (λ s. refl) refl std
  alike FunBody e = by_dialect (Alike FunBody) (λ s. refl) refl std
  alike Declaration e = by_dialect (Alike Declaration) (by_edition (λ s. Alike Declaration (Iso s)) refl refl) refl std
  alike DeclRest e = by_dialect (Alike DeclRest) (λ s. refl) refl std
  alike InitDecl e = by_dialect (Alike InitDecl) (λ s. refl) refl std
  alike Sassert e = by_dialect (Alike Sassert) (by_edition (λ s. Alike Sassert (Iso s)) refl refl) refl std
  alike Specs e = by_dialect (Alike Specs) (λ s. refl) refl std
  alike Main e = by_dialect (Alike Main) (λ s. refl) refl std
  alike Mod e = by_dialect (Alike Mod) (by_edition (λ s. Alike Mod (Iso s)) refl refl) refl std
  alike Qual e = by_dialect (Alike Qual) (λ s. refl) refl std
  alike Word e = by_dialect (Alike Word) (λ s. refl) refl std
  alike StructSpec e = by_dialect (Alike StructSpec) (λ s. refl) refl std
  alike SuRest e = by_dialect (Alike SuRest) (λ s. refl) refl std
  alike Members e = by_dialect (Alike Members) (λ s. refl) refl std
  alike Member e = by_dialect (Alike Member) (by_edition (λ s. Alike Member (Iso s)) refl refl) refl std
  alike MemRest e = by_dialect (Alike MemRest) (by_edition (λ s. Alike MemRest (Iso s)) refl refl) refl std
  alike Mdecl e = by_dialect (Alike Mdecl) (λ s. refl) refl std
  alike EnumSpec e = by_dialect (Alike EnumSpec) (λ s. refl) refl std
  alike EnRest e = by_dialect (Alike EnRest) (λ s. refl) refl std
  alike Enumerators e = by_dialect (Alike Enumerators) (λ s. refl) refl std
  alike Enumerator e = by_dialect (Alike Enumerator) (λ s. refl) refl std
  alike Declarator e = by_dialect (Alike Declarator) (λ s. refl) refl std
  alike Pointer e = by_dialect (Alike Pointer) (λ s. refl) refl std
  alike Direct e = by_dialect (Alike Direct) (λ s. refl) refl std
  alike Suffix e = by_dialect (Alike Suffix) (λ s. refl) refl std
  alike Bound e = by_dialect (Alike Bound) (λ s. refl) refl std
  alike Params e = by_dialect (Alike Params) (λ s. refl) refl std
  alike Param e = by_dialect (Alike Param) (λ s. refl) refl std
  alike Pdecl e = by_dialect (Alike Pdecl) (λ s. refl) refl std
  alike Pdirect e = by_dialect (Alike Pdirect) (λ s. refl) refl std
  alike TypeName e = by_dialect (Alike TypeName) (λ s. refl) refl std
  alike Adecl e = by_dialect (Alike Adecl) (λ s. refl) refl std
  alike Adirect e = by_dialect (Alike Adirect) (λ s. refl) refl std
  alike Init e = by_dialect (Alike Init) (λ s. refl) refl std
  alike InitList e = by_dialect (Alike InitList) (λ s. refl) refl std
  alike InitItem e = by_dialect (Alike InitItem) (λ s. refl) refl std
  alike Designator e = by_dialect (Alike Designator) (λ s. refl) refl std
  alike Expr e = by_dialect (Alike Expr) (λ s. refl) refl std
  alike Assign e = by_dialect (Alike Assign) (λ s. refl) refl std
  alike Asgop e = by_dialect (Alike Asgop) (λ s. refl) refl std
  alike Cond e = by_dialect (Alike Cond) (λ s. refl) refl std
  alike Lor e = by_dialect (Alike Lor) (λ s. refl) refl std
  alike Land e = by_dialect (Alike Land) (λ s. refl) refl std
  alike Bor e = by_dialect (Alike Bor) (λ s. refl) refl std
  alike Bxor e = by_dialect (Alike Bxor) (λ s. refl) refl std
  alike Band e = by_dialect (Alike Band) (λ s. refl) refl std
  alike Equal e = by_dialect (Alike Equal) (λ s. refl) refl std
  alike Relate e = by_dialect (Alike Relate) (λ s. refl) refl std
  alike Shift e = by_dialect (Alike Shift) (λ s. refl) refl std
  alike Add e = by_dialect (Alike Add) (λ s. refl) refl std
  alike Mul e = by_dialect (Alike Mul) (λ s. refl) refl std
  alike Cast e = by_dialect (Alike Cast) (by_edition (λ s. Alike Cast (Iso s)) refl refl) refl std
  alike CastRest e = by_dialect (Alike CastRest) (λ s. refl) refl std
  alike Unary e = by_dialect (Alike Unary) (λ s. refl) refl std
  alike SizeRest e = by_dialect (Alike SizeRest) (by_edition (λ s. Alike SizeRest (Iso s)) refl refl) refl std
  alike SizeLit e = by_dialect (Alike SizeLit) (λ s. refl) refl std
  alike Primary e = by_dialect (Alike Primary) (λ s. refl) refl std
  alike Post e = by_dialect (Alike Post) (λ s. refl) refl std
  alike Args e = by_dialect (Alike Args) (λ s. refl) refl std
  alike Block e = by_dialect (Alike Block) (λ s. refl) refl std
  alike BlockItem e = by_dialect (Alike BlockItem) (λ s. refl) refl std
  alike Statement e = by_dialect (Alike Statement) (λ s. refl) refl std
  alike Sub e = by_dialect (Alike Sub) (λ s. refl) refl std
  alike ForInit e = by_dialect (Alike ForInit) (λ s. refl) refl std
  alike AutoDecl e = by_dialect (Alike AutoDecl) (λ s. refl) refl std
  alike Attr e = by_dialect (Alike Attr) (λ s. refl) refl std
  alike AttrItem e = by_dialect (Alike AttrItem) (λ s. refl) refl std
  alike AttrWord e = by_dialect (Alike AttrWord) (λ s. refl) refl std
  alike AsmName e = by_dialect (Alike AsmName) (λ s. refl) refl std
  alike Operand e = by_dialect (Alike Operand) (λ s. refl) refl std
  alike Association e = by_dialect (Alike Association) (λ s. refl) refl std
  alike MemberPath e = by_dialect (Alike MemberPath) (λ s. refl) refl std
  alike AsmPart e = by_dialect (Alike AsmPart) (λ s. refl) refl std
  alike AsmOperand e = by_dialect (Alike AsmOperand) (λ s. refl) refl std

  closing : (p : Production) → ending p ≡ true → Closing p std
  closing Specs e = by_dialect (Closing Specs) (by_edition (λ s. Closing Specs (Iso s)) refl refl) refl std
  closing Main e = by_dialect (Closing Main) (by_edition (λ s. Closing Main (Iso s)) refl refl) refl std
  closing Mod e = by_dialect (Closing Mod) (by_edition (λ s. Closing Mod (Iso s)) refl refl) refl std
  closing Qual e = by_dialect (Closing Qual) (by_edition (λ s. Closing Qual (Iso s)) refl refl) refl std
  closing Word e = by_dialect (Closing Word) (by_edition (λ s. Closing Word (Iso s)) refl refl) refl std
  closing StructSpec e = by_dialect (Closing StructSpec) (by_edition (λ s. Closing StructSpec (Iso s)) refl refl) refl std
  closing SuRest e = by_dialect (Closing SuRest) (by_edition (λ s. Closing SuRest (Iso s)) refl refl) refl std
  closing EnumSpec e = by_dialect (Closing EnumSpec) (by_edition (λ s. Closing EnumSpec (Iso s)) refl refl) refl std
  closing EnRest e = by_dialect (Closing EnRest) (by_edition (λ s. Closing EnRest (Iso s)) refl refl) refl std
  closing Pointer e = by_dialect (Closing Pointer) (by_edition (λ s. Closing Pointer (Iso s)) refl refl) refl std
  closing Suffix e = by_dialect (Closing Suffix) (by_edition (λ s. Closing Suffix (Iso s)) refl refl) refl std
  closing Param e = by_dialect (Closing Param) (by_edition (λ s. Closing Param (Iso s)) refl refl) refl std
  closing Pdecl e = by_dialect (Closing Pdecl) (by_edition (λ s. Closing Pdecl (Iso s)) refl refl) refl std
  closing Pdirect e = by_dialect (Closing Pdirect) (by_edition (λ s. Closing Pdirect (Iso s)) refl refl) refl std
  closing Assign e = by_dialect (Closing Assign) (by_edition (λ s. Closing Assign (Iso s)) refl refl) refl std
  closing Cond e = by_dialect (Closing Cond) (by_edition (λ s. Closing Cond (Iso s)) refl refl) refl std
  closing Lor e = by_dialect (Closing Lor) (by_edition (λ s. Closing Lor (Iso s)) refl refl) refl std
  closing Land e = by_dialect (Closing Land) (by_edition (λ s. Closing Land (Iso s)) refl refl) refl std
  closing Bor e = by_dialect (Closing Bor) (by_edition (λ s. Closing Bor (Iso s)) refl refl) refl std
  closing Bxor e = by_dialect (Closing Bxor) (by_edition (λ s. Closing Bxor (Iso s)) refl refl) refl std
  closing Band e = by_dialect (Closing Band) (by_edition (λ s. Closing Band (Iso s)) refl refl) refl std
  closing Equal e = by_dialect (Closing Equal) (by_edition (λ s. Closing Equal (Iso s)) refl refl) refl std
  closing Relate e = by_dialect (Closing Relate) (by_edition (λ s. Closing Relate (Iso s)) refl refl) refl std
  closing Shift e = by_dialect (Closing Shift) (by_edition (λ s. Closing Shift (Iso s)) refl refl) refl std
  closing Add e = by_dialect (Closing Add) (by_edition (λ s. Closing Add (Iso s)) refl refl) refl std
  closing Mul e = by_dialect (Closing Mul) (by_edition (λ s. Closing Mul (Iso s)) refl refl) refl std
  closing Cast e = by_dialect (Closing Cast) (by_edition (λ s. Closing Cast (Iso s)) refl refl) refl std
  closing CastRest e = by_dialect (Closing CastRest) (by_edition (λ s. Closing CastRest (Iso s)) refl refl) refl std
  closing Unary e = by_dialect (Closing Unary) (by_edition (λ s. Closing Unary (Iso s)) refl refl) refl std
  closing SizeRest e = by_dialect (Closing SizeRest) (by_edition (λ s. Closing SizeRest (Iso s)) refl refl) refl std
  closing SizeLit e = by_dialect (Closing SizeLit) (by_edition (λ s. Closing SizeLit (Iso s)) refl refl) refl std
  closing Primary e = by_dialect (Closing Primary) (by_edition (λ s. Closing Primary (Iso s)) refl refl) refl std
  closing Post e = by_dialect (Closing Post) (by_edition (λ s. Closing Post (Iso s)) refl refl) refl std
  closing Attr e = by_dialect (Closing Attr) (λ s. refl) refl std
  closing Operand e = by_dialect (Closing Operand) (λ s. refl) refl std
  closing _ e = absurd (false≢true e)

  pub tells : Tells (grammar std) ending
  tells = record { sound = grammar-sound std; alike = alike; closing = closing }
