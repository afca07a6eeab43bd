-- A number for each production, by which two are told apart.
use Rattle.std.specs.Prelude.{ℕ, List, [], ◌∷◌}
use Rattle.c99_tree.specs.declared.production.Production.{Production}
use Rattle.c99_tree.specs.declared.production.Production.TheVariants.{TranslationUnit, External, ExtRest, ExtTail, FunBody, Declaration, DeclRest, InitDecl, Sassert, Specs, Main, Mod, Qual, Word, StructSpec, SuRest, Members, Member, MemRest, Mdecl, EnumSpec, EnRest, Enumerators, Enumerator, Declarator, Pointer, Direct, Suffix, Bound, Params, Param, Pdecl, Pdirect, TypeName, Adecl, Adirect, Init, InitList, InitItem, Designator, Expr, Assign, Asgop, Cond, Lor, Land, Bor, Bxor, Band, Equal, Relate, Shift, Add, Mul, Cast, CastRest, Unary, SizeRest, SizeLit, Primary, Post, Args, Block, BlockItem, Statement, Sub, ForInit, AutoDecl, Attr, AttrItem, AttrWord, AsmName, Operand, Association, MemberPath, AsmPart, AsmOperand}

abbrev pub number_of : Production → ℕ
number_of TranslationUnit = 0
number_of External = 1
number_of ExtRest = 2
number_of ExtTail = 3
number_of FunBody = 4
number_of Declaration = 5
number_of DeclRest = 6
number_of InitDecl = 7
number_of Sassert = 8
number_of Specs = 9
number_of Main = 10
number_of Mod = 11
number_of Qual = 12
number_of Word = 13
number_of StructSpec = 14
number_of SuRest = 15
number_of Members = 16
number_of Member = 17
number_of MemRest = 18
number_of Mdecl = 19
number_of EnumSpec = 20
number_of EnRest = 21
number_of Enumerators = 22
number_of Enumerator = 23
number_of Declarator = 24
number_of Pointer = 25
number_of Direct = 26
number_of Suffix = 27
number_of Bound = 28
number_of Params = 29
number_of Param = 30
number_of Pdecl = 31
number_of Pdirect = 32
number_of TypeName = 33
number_of Adecl = 34
number_of Adirect = 35
number_of Init = 36
number_of InitList = 37
number_of InitItem = 38
number_of Designator = 39
number_of Expr = 40
number_of Assign = 41
number_of Asgop = 42
number_of Cond = 43
number_of Lor = 44
number_of Land = 45
number_of Bor = 46
number_of Bxor = 47
number_of Band = 48
number_of Equal = 49
number_of Relate = 50
number_of Shift = 51
number_of Add = 52
number_of Mul = 53
number_of Cast = 54
number_of CastRest = 55
number_of Unary = 56
number_of SizeRest = 57
number_of SizeLit = 58
number_of Primary = 59
number_of Post = 60
number_of Args = 61
number_of Block = 62
number_of BlockItem = 63
number_of Statement = 64
number_of Sub = 65
number_of ForInit = 66
number_of AutoDecl = 67
number_of Attr = 68
number_of AttrItem = 69
number_of AttrWord = 70
number_of AsmName = 71
number_of Operand = 72
number_of Association = 73
number_of MemberPath = 74
number_of AsmPart = 75
number_of AsmOperand = 76

-- each of them at its number
abbrev pub productions : List Production
productions =
    TranslationUnit ∷ External ∷ ExtRest ∷ ExtTail ∷ FunBody ∷ Declaration ∷ DeclRest ∷ InitDecl ∷ Sassert ∷ Specs ∷
    Main ∷ Mod ∷ Qual ∷ Word ∷ StructSpec ∷ SuRest ∷ Members ∷ Member ∷ MemRest ∷ Mdecl ∷ EnumSpec ∷ EnRest ∷
    Enumerators ∷ Enumerator ∷ Declarator ∷ Pointer ∷ Direct ∷ Suffix ∷ Bound ∷ Params ∷ Param ∷ Pdecl ∷ Pdirect ∷
    TypeName ∷ Adecl ∷ Adirect ∷ Init ∷ InitList ∷ InitItem ∷ Designator ∷ Expr ∷ Assign ∷ Asgop ∷ Cond ∷ Lor ∷
    Land ∷ Bor ∷ Bxor ∷ Band ∷ Equal ∷ Relate ∷ Shift ∷ Add ∷ Mul ∷ Cast ∷ CastRest ∷ Unary ∷ SizeRest ∷ SizeLit ∷
    Primary ∷ Post ∷ Args ∷ Block ∷ BlockItem ∷ Statement ∷ Sub ∷ ForInit ∷ AutoDecl ∷ Attr ∷ AttrItem ∷ AttrWord ∷
    AsmName ∷ Operand ∷ Association ∷ MemberPath ∷ AsmPart ∷ AsmOperand ∷ []
