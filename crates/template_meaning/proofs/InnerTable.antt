-- What the table of each edition says of productions: what is read in one that is no function, no statement and no declaration
-- is none of these either; and an expression that has one child alone is an operand.
use Rattle.std.proofs.Common.{◌≡◌, Bool, true, false, ◌&&◌, ◌||◌, not, refl}
use Rattle.std.specs.List.{list_all}
use Rattle.c99_grammar.specs.declared.dialects.Edition.{Edition}
use Rattle.c99_tree.specs.declared.production.Production.{Production}
use Rattle.c99_tree.specs.declared.production.Production.TheVariants.{TranslationUnit, External, ExtRest, ExtTail, FunBody, Declaration, DeclRest, InitDecl, Sassert, Specs, Main, Mod, Qual, Word, StructSpec, SuRest, Members, Member, MemRest, Mdecl, EnumSpec, EnRest, Enumerators, Enumerator, Declarator, Pointer, Direct, Suffix, Bound, Params, Param, Pdecl, Pdirect, TypeName, Adecl, Adirect, Init, InitList, InitItem, Designator, Expr, Assign, Asgop, Cond, Lor, Land, Bor, Bxor, Band, Equal, Relate, Shift, Add, Mul, Cast, CastRest, Unary, SizeRest, SizeLit, Primary, Post, Args, Block, BlockItem, Statement, Sub, ForInit, AutoDecl, Attr, AttrItem, AttrWord, AsmName, Operand, Association, MemberPath, AsmPart, AsmOperand}
use Rattle.c99_grammar.specs.Items.{Item, one, part, end_of_text, act, ◌·◌, choice, maybe, many, deep, Alternative}
use Rattle.c99_read.specs.State.{collapses}
use Rattle.c99_grammar.specs.Standard.{iso}
use Rattle.c99_grammar.proofs.StandardLemmas.{by_edition}
use Rattle.tree_laws.specs.Shapes.{has_no_declaring, passes_on}
use Rattle.template_meaning.specs.Children.{is_operand}

-- the item may have no child
abbrev pub can_none : Item → Bool
can_none (one classes) = false
can_none (part p) = false
can_none end_of_text = true
can_none (act a) = true
can_none (a · b) = can_none a && can_none b
can_none (choice a b) = can_none a || can_none b
can_none (maybe a) = true
can_none (many t a) = true
can_none (deep a) = can_none a

-- where it has one child, and that is a node, it is an operand
abbrev pub is_lone_operand : Item → Bool
is_lone_operand (one classes) = true
is_lone_operand (part p) = is_operand p
is_lone_operand end_of_text = true
is_lone_operand (act a) = true
is_lone_operand (a · b) = (not (can_none b) || is_lone_operand a) && (not (can_none a) || is_lone_operand b)
is_lone_operand (choice a b) = is_lone_operand a && is_lone_operand b
is_lone_operand (maybe a) = is_lone_operand a
is_lone_operand (many t a) = is_lone_operand a
is_lone_operand (deep a) = is_lone_operand a

abbrev pub stays_inner : Production → Alternative → Bool
stays_inner p a = passes_on has_no_declaring p a.body && (not (collapses p) || is_lone_operand a.body)

module _ (std : Edition) where
  pub inner_at : (p : Production) → list_all (stays_inner p) ((iso std).table p) ≡ true
  inner_at TranslationUnit = refl
  inner_at External = by_edition (λ s. list_all (stays_inner External) ((iso s).table External) ≡ true) refl refl std
  inner_at ExtRest = refl
  inner_at ExtTail = refl
  inner_at FunBody = refl
  inner_at Declaration = by_edition (λ s. list_all (stays_inner Declaration) ((iso s).table Declaration) ≡ true) refl refl std
  inner_at DeclRest = refl
  inner_at InitDecl = refl
  inner_at Sassert = by_edition (λ s. list_all (stays_inner Sassert) ((iso s).table Sassert) ≡ true) refl refl std
  inner_at Specs = refl
  inner_at Main = refl
  inner_at Mod = by_edition (λ s. list_all (stays_inner Mod) ((iso s).table Mod) ≡ true) refl refl std
  inner_at Qual = refl
  inner_at Word = refl
  inner_at StructSpec = refl
  inner_at SuRest = refl
  inner_at Members = refl
  inner_at Member = by_edition (λ s. list_all (stays_inner Member) ((iso s).table Member) ≡ true) refl refl std
  inner_at MemRest = by_edition (λ s. list_all (stays_inner MemRest) ((iso s).table MemRest) ≡ true) refl refl std
  inner_at Mdecl = refl
  inner_at EnumSpec = refl
  inner_at EnRest = refl
  inner_at Enumerators = refl
  inner_at Enumerator = refl
  inner_at Declarator = refl
  inner_at Pointer = refl
  inner_at Direct = refl
  inner_at Suffix = refl
  inner_at Bound = refl
  inner_at Params = refl
  inner_at Param = refl
  inner_at Pdecl = refl
  inner_at Pdirect = refl
  inner_at TypeName = refl
  inner_at Adecl = refl
  inner_at Adirect = refl
  inner_at Init = refl
  inner_at InitList = refl
  inner_at InitItem = refl
  inner_at Designator = refl
  inner_at Expr = refl
  inner_at Assign = refl
  inner_at Asgop = refl
  inner_at Cond = refl
  inner_at Lor = refl
  inner_at Land = refl
  inner_at Bor = refl
  inner_at Bxor = refl
  inner_at Band = refl
  inner_at Equal = refl
  inner_at Relate = refl
  inner_at Shift = refl
  inner_at Add = refl
  inner_at Mul = refl
  inner_at Cast = refl
  inner_at CastRest = refl
  inner_at Unary = refl
  inner_at SizeRest = refl
  inner_at SizeLit = refl
  inner_at Primary = refl
  inner_at Post = refl
  inner_at Args = refl
  inner_at Block = refl
  inner_at BlockItem = refl
  inner_at Statement = refl
  inner_at Sub = refl
  inner_at ForInit = refl
  inner_at AutoDecl = refl
  inner_at Attr = refl
  inner_at AttrItem = refl
  inner_at AttrWord = refl
  inner_at AsmName = refl
  inner_at Operand = refl
  inner_at Association = refl
  inner_at MemberPath = refl
  inner_at AsmPart = refl
  inner_at AsmOperand = refl
