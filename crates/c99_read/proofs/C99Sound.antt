-- The table of each dialect is sound: what a production begins with has a lower order, and each has a token.
use Rattle.std.specs.Prelude.{◌≡◌, true, refl}
use Rattle.std.specs.List.{list_all}
use Rattle.c99_grammar.specs.declared.dialects.Dialect.{Dialect}
use Rattle.c99_grammar.specs.declared.dialects.Dialect.TheVariants.{Iso, Gnu}
use Rattle.c99_grammar.specs.declared.dialects.Edition.{Edition}
use Rattle.c99_tree.specs.declared.production.Production.{Production}
use Rattle.c99_tree.specs.declared.production.Production.TheVariants.{TranslationUnit, External, ExtRest, ExtTail, FunBody, Declaration, DeclRest, InitDecl, Sassert, Specs, Main, Mod, Qual, Word, StructSpec, SuRest, Members, Member, MemRest, Mdecl, EnumSpec, EnRest, Enumerators, Enumerator, Declarator, Pointer, Direct, Suffix, Bound, Params, Param, Pdecl, Pdirect, TypeName, Adecl, Adirect, Init, InitList, InitItem, Designator, Expr, Assign, Asgop, Cond, Lor, Land, Bor, Bxor, Band, Equal, Relate, Shift, Add, Mul, Cast, CastRest, Unary, SizeRest, SizeLit, Primary, Post, Args, Block, BlockItem, Statement, Sub, ForInit, AutoDecl, Attr, AttrItem, AttrWord, AsmName, Operand, Association, MemberPath, AsmPart, AsmOperand}
use Rattle.c99_grammar.specs.Standard.{iso, grammar}
use Rattle.c99_grammar.proofs.StandardLemmas.{by_edition, by_dialect}
use Rattle.c99_read.specs.Sound.{is_sound, IsSound}

abbrev AreSound : Production → Dialect → Type 0
AreSound p std = list_all (is_sound p) ((grammar std).table p) ≡ true

sound_at-iso : (p : Production) (std : Edition) → AreSound p (Iso std)
sound_at-iso TranslationUnit std = refl
sound_at-iso External std = by_edition (λ s. AreSound External (Iso s)) refl refl std
sound_at-iso ExtRest std = refl
sound_at-iso ExtTail std = refl
sound_at-iso FunBody std = refl
sound_at-iso Declaration std = by_edition (λ s. AreSound Declaration (Iso s)) refl refl std
sound_at-iso DeclRest std = refl
sound_at-iso InitDecl std = refl
sound_at-iso Sassert std = by_edition (λ s. AreSound Sassert (Iso s)) refl refl std
sound_at-iso Specs std = refl
sound_at-iso Main std = refl
sound_at-iso Mod std = by_edition (λ s. AreSound Mod (Iso s)) refl refl std
sound_at-iso Qual std = refl
sound_at-iso Word std = refl
sound_at-iso StructSpec std = refl
sound_at-iso SuRest std = refl
sound_at-iso Members std = refl
sound_at-iso Member std = by_edition (λ s. AreSound Member (Iso s)) refl refl std
sound_at-iso MemRest std = by_edition (λ s. AreSound MemRest (Iso s)) refl refl std
sound_at-iso Mdecl std = refl
sound_at-iso EnumSpec std = refl
sound_at-iso EnRest std = refl
sound_at-iso Enumerators std = refl
sound_at-iso Enumerator std = refl
sound_at-iso Declarator std = refl
sound_at-iso Pointer std = refl
sound_at-iso Direct std = refl
sound_at-iso Suffix std = refl
sound_at-iso Bound std = refl
sound_at-iso Params std = refl
sound_at-iso Param std = refl
sound_at-iso Pdecl std = refl
sound_at-iso Pdirect std = refl
sound_at-iso TypeName std = refl
sound_at-iso Adecl std = refl
sound_at-iso Adirect std = refl
sound_at-iso Init std = refl
sound_at-iso InitList std = refl
sound_at-iso InitItem std = refl
sound_at-iso Designator std = refl
sound_at-iso Expr std = refl
sound_at-iso Assign std = refl
sound_at-iso Asgop std = refl
sound_at-iso Cond std = refl
sound_at-iso Lor std = refl
sound_at-iso Land std = refl
sound_at-iso Bor std = refl
sound_at-iso Bxor std = refl
sound_at-iso Band std = refl
sound_at-iso Equal std = refl
sound_at-iso Relate std = refl
sound_at-iso Shift std = refl
sound_at-iso Add std = refl
sound_at-iso Mul std = refl
sound_at-iso Cast std = refl
sound_at-iso CastRest std = refl
sound_at-iso Unary std = refl
sound_at-iso SizeRest std = refl
sound_at-iso SizeLit std = refl
sound_at-iso Primary std = refl
sound_at-iso Post std = refl
sound_at-iso Args std = refl
sound_at-iso Block std = refl
sound_at-iso BlockItem std = refl
sound_at-iso Statement std = refl
sound_at-iso Sub std = refl
sound_at-iso ForInit std = refl
sound_at-iso AutoDecl std = refl
sound_at-iso Attr std = refl
sound_at-iso AttrItem std = refl
sound_at-iso AttrWord std = refl
sound_at-iso AsmName std = refl
sound_at-iso Operand std = refl
sound_at-iso Association std = refl
sound_at-iso MemberPath std = refl
sound_at-iso AsmPart std = refl
sound_at-iso AsmOperand std = refl

sound_at-gnu : (p : Production) → AreSound p Gnu
sound_at-gnu TranslationUnit = refl
sound_at-gnu External = refl
sound_at-gnu ExtRest = refl
sound_at-gnu ExtTail = refl
sound_at-gnu FunBody = refl
sound_at-gnu Declaration = refl
sound_at-gnu DeclRest = refl
sound_at-gnu InitDecl = refl
sound_at-gnu Sassert = refl
sound_at-gnu Specs = refl
sound_at-gnu Main = refl
sound_at-gnu Mod = refl
sound_at-gnu Qual = refl
sound_at-gnu Word = refl
sound_at-gnu StructSpec = refl
sound_at-gnu SuRest = refl
sound_at-gnu Members = refl
sound_at-gnu Member = refl
sound_at-gnu MemRest = refl
sound_at-gnu Mdecl = refl
sound_at-gnu EnumSpec = refl
sound_at-gnu EnRest = refl
sound_at-gnu Enumerators = refl
sound_at-gnu Enumerator = refl
sound_at-gnu Declarator = refl
sound_at-gnu Pointer = refl
sound_at-gnu Direct = refl
sound_at-gnu Suffix = refl
sound_at-gnu Bound = refl
sound_at-gnu Params = refl
sound_at-gnu Param = refl
sound_at-gnu Pdecl = refl
sound_at-gnu Pdirect = refl
sound_at-gnu TypeName = refl
sound_at-gnu Adecl = refl
sound_at-gnu Adirect = refl
sound_at-gnu Init = refl
sound_at-gnu InitList = refl
sound_at-gnu InitItem = refl
sound_at-gnu Designator = refl
sound_at-gnu Expr = refl
sound_at-gnu Assign = refl
sound_at-gnu Asgop = refl
sound_at-gnu Cond = refl
sound_at-gnu Lor = refl
sound_at-gnu Land = refl
sound_at-gnu Bor = refl
sound_at-gnu Bxor = refl
sound_at-gnu Band = refl
sound_at-gnu Equal = refl
sound_at-gnu Relate = refl
sound_at-gnu Shift = refl
sound_at-gnu Add = refl
sound_at-gnu Mul = refl
sound_at-gnu Cast = refl
sound_at-gnu CastRest = refl
sound_at-gnu Unary = refl
sound_at-gnu SizeRest = refl
sound_at-gnu SizeLit = refl
sound_at-gnu Primary = refl
sound_at-gnu Post = refl
sound_at-gnu Args = refl
sound_at-gnu Block = refl
sound_at-gnu BlockItem = refl
sound_at-gnu Statement = refl
sound_at-gnu Sub = refl
sound_at-gnu ForInit = refl
sound_at-gnu AutoDecl = refl
sound_at-gnu Attr = refl
sound_at-gnu AttrItem = refl
sound_at-gnu AttrWord = refl
sound_at-gnu AsmName = refl
sound_at-gnu Operand = refl
sound_at-gnu Association = refl
sound_at-gnu MemberPath = refl
sound_at-gnu AsmPart = refl
sound_at-gnu AsmOperand = refl

sound_at : (p : Production) (std : Dialect) → AreSound p std
sound_at p = by_dialect (AreSound p) (sound_at-iso p) (sound_at-gnu p)

pub grammar-sound : (std : Dialect) → IsSound (grammar std)
grammar-sound std = record { sound = λ p. sound_at p std }

pub iso-sound : (std : Edition) → IsSound (iso std)
iso-sound std = grammar-sound (Iso std)
