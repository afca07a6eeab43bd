-- How the productions stand over one another: what a production reads at its own depth has a lower level.
use Rattle.std.specs.Prelude.{ℕ, ◌+◌, ◌≡◌, Bool, true, ◌&&◌, nat_lt, max}
use Rattle.c99_tree.specs.declared.production.Production.{Production}
use Rattle.c99_tree.specs.declared.production.Production.TheVariants.{TranslationUnit, External, ExtRest, ExtTail, FunBody, Declaration, DeclRest, InitDecl, Sassert, Specs, Main, Mod, Qual, Word, StructSpec, SuRest, Members, Member, MemRest, Mdecl, EnumSpec, EnRest, Enumerators, Enumerator, Declarator, Pointer, Direct, Suffix, Bound, Params, Param, Pdecl, Pdirect, TypeName, Adecl, Adirect, Init, InitList, InitItem, Designator, Expr, Assign, Asgop, Cond, Lor, Land, Bor, Bxor, Band, Equal, Relate, Shift, Add, Mul, Cast, CastRest, Unary, SizeRest, SizeLit, Primary, Post, Args, Block, BlockItem, Statement, Sub, ForInit, AutoDecl, Attr, AttrItem, AttrWord, AsmName, Operand, Association, MemberPath, AsmPart, AsmOperand}
use Rattle.c99_grammar.specs.Items.{Item, one, part, end_of_text, act, ◌·◌, choice, maybe, many, deep}
use Rattle.c99_read.specs.Reading.{repeat}
use Rattle.c99_read.specs.Sound.{is_low, is_met}

abbrev pub level_of : Production → ℕ
level_of TranslationUnit = 12
level_of External = 11
level_of ExtRest = 10
level_of ExtTail = 9
level_of FunBody = 8
level_of Declaration = 7
level_of DeclRest = 6
level_of InitDecl = 5
level_of Sassert = 0
level_of Specs = 5
level_of Main = 4
level_of Mod = 3
level_of Qual = 0
level_of Word = 0
level_of StructSpec = 3
level_of SuRest = 0
level_of Members = 8
level_of Member = 7
level_of MemRest = 6
level_of Mdecl = 5
level_of EnumSpec = 3
level_of EnRest = 0
level_of Enumerators = 4
level_of Enumerator = 3
level_of Declarator = 4
level_of Pointer = 3
level_of Direct = 3
level_of Suffix = 1
level_of Bound = 17
level_of Params = 7
level_of Param = 6
level_of Pdecl = 4
level_of Pdirect = 3
level_of TypeName = 6
level_of Adecl = 4
level_of Adirect = 3
level_of Init = 17
level_of InitList = 19
level_of InitItem = 18
level_of Designator = 0
level_of Expr = 17
level_of Assign = 16
level_of Asgop = 0
level_of Cond = 15
level_of Lor = 14
level_of Land = 13
level_of Bor = 12
level_of Bxor = 11
level_of Band = 10
level_of Equal = 9
level_of Relate = 8
level_of Shift = 7
level_of Add = 6
level_of Mul = 5
level_of Cast = 4
level_of CastRest = 1
level_of Unary = 3
level_of SizeRest = 2
level_of SizeLit = 1
level_of Primary = 1
level_of Post = 0
level_of Args = 17
level_of Block = 0
level_of BlockItem = 10
level_of Statement = 9
level_of Sub = 0
level_of ForInit = 8
level_of AutoDecl = 3
level_of Attr = 2
level_of AttrItem = 1
level_of AttrWord = 0
level_of AsmName = 0
level_of Operand = 0
level_of Association = 0
level_of MemberPath = 0
level_of AsmPart = 1
level_of AsmOperand = 0

-- above the level of each production that the item reads at its own depth
abbrev pub height : Item → ℕ
height (one classes) = 0
height (part p) = level_of p + 1
height end_of_text = 0
height (act a) = 0
height (a · b) = max (height a) (height b)
height (choice a b) = max (height a) (height b)
height (maybe a) = height a
height (many t a) = height a
height (deep a) = 0

-- how many items the item is made of
abbrev pub size : Item → ℕ
size (a · b) = size a + size b + 1
size (choice a b) = size a + size b + 1
size (maybe a) = size a + 1
size (many t a) = size a + 1
size (deep a) = size a + 1
size _ = 1

-- each repetition in the item is one that reading meets
abbrev pub Met : Item → Type 0
Met (a · b) = Met a × Met b
Met (choice a b) = Met a × Met b
Met (maybe a) = Met a
Met (many t a) = (is_met (repeat t a) ≡ true) × Met a
Met (deep a) = Met a
Met _ = Unit {0}

-- what an alternative of the production needs so that it can be read
abbrev pub is_ready : Production → Item → Bool
is_ready p body = is_low 64 body && (nat_lt (height body) (level_of p + 1) && nat_lt (size body) 100)
