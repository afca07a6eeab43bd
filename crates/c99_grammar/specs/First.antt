-- With which classes each production starts. That these are the right ones is checked against the table.
use Rattle.std.specs.Prelude.{ℕ, List, [], ◌∷◌, ◌++◌}
use Rattle.c99_grammar.specs.declared.dialects.Edition.{Edition}
use Rattle.c99_grammar.specs.declared.dialects.Edition.TheVariants.{C99, C11}
use Rattle.c99_tree.specs.declared.production.Production.{Production}
use Rattle.c99_tree.specs.declared.production.Production.TheVariants.{TranslationUnit, External, ExtRest, ExtTail, FunBody, Declaration, DeclRest, InitDecl, Sassert, Specs, Main, Mod, Qual, Word, StructSpec, SuRest, Members, Member, MemRest, Mdecl, EnumSpec, EnRest, Enumerators, Enumerator, Declarator, Pointer, Direct, Suffix, Bound, Params, Param, Pdecl, Pdirect, TypeName, Adecl, Adirect, Init, InitList, InitItem, Designator, Expr, Assign, Asgop, Cond, Lor, Land, Bor, Bxor, Band, Equal, Relate, Shift, Add, Mul, Cast, CastRest, Unary, SizeRest, SizeLit, Primary, Post, Args, Block, BlockItem, Statement, Sub, ForInit, AutoDecl, Attr, AttrItem, AttrWord, AsmName, Operand, Association, MemberPath, AsmPart, AsmOperand}
use Rattle.c99_grammar.specs.declared.classes.Class.{Class}
use Rattle.c99_grammar.specs.declared.classes.Class.TheVariants.{Auto, Break, Case, Char, Const, Continue, Default, Do, Double, Else, Enum, Extern, Float, For, Goto, If, Inline, Int, Long, Register, Restrict, Return, Short, Signed, Sizeof, Static, Struct, Switch, Typedef, Union, Unsigned, Void, Volatile, While, BoolWord, ComplexWord, ImaginaryWord, Alignas, Alignof, Atomic, Generic, Noreturn, StaticAssert, ThreadLocal, AsmWord, TypeofWord, AttributeWord, ExtensionWord, LocalLabelWord, AutoTypeWord, RealPartWord, VaArgWord, OffsetofWord, TypesCompatibleWord, LeftBracket, RightBracket, LeftParen, RightParen, LeftBrace, RightBrace, Dot, Arrow, PlusPlus, MinusMinus, Amp, Star, Plus, Minus, Tilde, Bang, Slash, Percent, ShiftLeft, ShiftRight, Less, Greater, LessEq, GreaterEq, EqEq, BangEq, Caret, Bar, AmpAmp, BarBar, Question, Colon, Semicolon, Ellipsis, Eq, StarEq, SlashEq, PercentEq, PlusEq, MinusEq, ShiftLeftEq, ShiftRightEq, AmpEq, CaretEq, BarEq, Comma, Hash, HashHash, Identifier, TypedefName, Constant, CharConstant, StringLiteral, End, NoClass}
use Rattle.c99_grammar.specs.Items.{Ask, is}

abbrev pub specifiers : List Class
specifiers =
    Auto ∷ Char ∷ Const ∷ Double ∷ Enum ∷ Extern ∷ Float ∷ Inline ∷ Int ∷ Long ∷ Register ∷
    Restrict ∷ Short ∷ Signed ∷ Static ∷ Struct ∷ Typedef ∷ Union ∷ Unsigned ∷ Void ∷ Volatile
    ∷ BoolWord ∷ ComplexWord ∷ ImaginaryWord ∷ TypedefName ∷ []

abbrev pub words : List Class
words =
    Char ∷ Double ∷ Float ∷ Int ∷ Long ∷ Short ∷ Signed ∷ Unsigned ∷ Void ∷ BoolWord ∷
    ComplexWord ∷ ImaginaryWord ∷ []

abbrev pub qualifiers : List Class
qualifiers = Const ∷ Restrict ∷ Volatile ∷ []

abbrev pub modifiers : List Class
modifiers =
    Auto ∷ Const ∷ Extern ∷ Inline ∷ Register ∷ Restrict ∷ Static ∷ Typedef ∷ Volatile ∷ []

abbrev pub expressions : List Class
expressions =
    Sizeof ∷ LeftParen ∷ PlusPlus ∷ MinusMinus ∷ Amp ∷ Star ∷ Plus ∷ Minus ∷ Tilde ∷ Bang ∷
    Identifier ∷ Constant ∷ CharConstant ∷ StringLiteral ∷ []

abbrev pub assignments : List Class
assignments =
    Eq ∷ StarEq ∷ SlashEq ∷ PercentEq ∷ PlusEq ∷ MinusEq ∷ ShiftLeftEq ∷ ShiftRightEq ∷ AmpEq ∷
    CaretEq ∷ BarEq ∷ []

abbrev pub declarators : List Class
declarators = LeftParen ∷ Star ∷ Identifier ∷ TypedefName ∷ []

abbrev pub initializers : List Class
initializers =
    Sizeof ∷ LeftParen ∷ LeftBrace ∷ PlusPlus ∷ MinusMinus ∷ Amp ∷ Star ∷ Plus ∷ Minus ∷ Tilde
    ∷ Bang ∷ Identifier ∷ Constant ∷ CharConstant ∷ StringLiteral ∷ []

abbrev pub initializer_items : List Class
initializer_items =
    Sizeof ∷ LeftBracket ∷ LeftParen ∷ LeftBrace ∷ Dot ∷ PlusPlus ∷ MinusMinus ∷ Amp ∷ Star ∷
    Plus ∷ Minus ∷ Tilde ∷ Bang ∷ Identifier ∷ Constant ∷ CharConstant ∷ StringLiteral ∷ []

abbrev pub statements : List Class
statements =
    Break ∷ Case ∷ Continue ∷ Default ∷ Do ∷ For ∷ Goto ∷ If ∷ Return ∷ Sizeof ∷ Switch ∷ While
    ∷ LeftParen ∷ LeftBrace ∷ PlusPlus ∷ MinusMinus ∷ Amp ∷ Star ∷ Plus ∷ Minus ∷ Tilde ∷ Bang
    ∷ Semicolon ∷ Identifier ∷ Constant ∷ CharConstant ∷ StringLiteral ∷ []

abbrev pub members : List Class
members =
    Auto ∷ Char ∷ Const ∷ Double ∷ Enum ∷ Extern ∷ Float ∷ Inline ∷ Int ∷ Long ∷ Register ∷
    Restrict ∷ Short ∷ Signed ∷ Static ∷ Struct ∷ Typedef ∷ Union ∷ Unsigned ∷ Void ∷ Volatile
    ∷ BoolWord ∷ ComplexWord ∷ ImaginaryWord ∷ Semicolon ∷ TypedefName ∷ []

abbrev pub every : List Class
every =
    Auto ∷ Break ∷ Case ∷ Char ∷ Const ∷ Continue ∷ Default ∷ Do ∷ Double ∷ Else ∷ Enum ∷
    Extern ∷ Float ∷ For ∷ Goto ∷ If ∷ Inline ∷ Int ∷ Long ∷ Register ∷ Restrict ∷ Return ∷
    Short ∷ Signed ∷ Sizeof ∷ Static ∷ Struct ∷ Switch ∷ Typedef ∷ Union ∷ Unsigned ∷ Void ∷
    Volatile ∷ While ∷ BoolWord ∷ ComplexWord ∷ ImaginaryWord ∷ Alignas ∷ Alignof ∷ Atomic ∷ Generic ∷ Noreturn ∷
    StaticAssert ∷ ThreadLocal ∷ AsmWord ∷ TypeofWord ∷ AttributeWord ∷ ExtensionWord ∷ LocalLabelWord ∷ AutoTypeWord ∷
    RealPartWord ∷ VaArgWord ∷ OffsetofWord ∷ TypesCompatibleWord ∷ LeftBracket ∷ RightBracket ∷
    LeftParen ∷ RightParen ∷ LeftBrace ∷ RightBrace ∷ Dot ∷ Arrow ∷ PlusPlus ∷ MinusMinus ∷ Amp
    ∷ Star ∷ Plus ∷ Minus ∷ Tilde ∷ Bang ∷ Slash ∷ Percent ∷ ShiftLeft ∷ ShiftRight ∷ Less ∷
    Greater ∷ LessEq ∷ GreaterEq ∷ EqEq ∷ BangEq ∷ Caret ∷ Bar ∷ AmpAmp ∷ BarBar ∷ Question ∷
    Colon ∷ Semicolon ∷ Ellipsis ∷ Eq ∷ StarEq ∷ SlashEq ∷ PercentEq ∷ PlusEq ∷ MinusEq ∷
    ShiftLeftEq ∷ ShiftRightEq ∷ AmpEq ∷ CaretEq ∷ BarEq ∷ Comma ∷ Hash ∷ HashHash ∷ Identifier
    ∷ TypedefName ∷ Constant ∷ CharConstant ∷ StringLiteral ∷ End ∷ NoClass ∷ []

-- with which classes a production starts by each edition
abbrev pub shared : Production → List Class
shared TranslationUnit = Semicolon ∷ End ∷ specifiers
shared External = members
shared ExtRest = LeftParen ∷ Star ∷ Semicolon ∷ Identifier ∷ TypedefName ∷ []
shared ExtTail = every
shared FunBody = LeftBrace ∷ specifiers
shared Declaration = specifiers
shared DeclRest = LeftParen ∷ Star ∷ Semicolon ∷ Identifier ∷ TypedefName ∷ []
shared InitDecl = declarators
shared Sassert = []
shared Specs = specifiers
shared Main = Char ∷ Double ∷ Enum ∷ Float ∷ Int ∷ Long ∷ Short ∷ Signed ∷ Struct ∷ Union ∷ Unsigned ∷ Void ∷ BoolWord ∷ ComplexWord ∷ ImaginaryWord ∷ TypedefName ∷ []
shared Mod = modifiers
shared Qual = qualifiers
shared Word = words
shared StructSpec = Struct ∷ Union ∷ []
shared SuRest = LeftBrace ∷ Identifier ∷ TypedefName ∷ []
shared Members = members
shared Member = members
shared MemRest = []
shared Mdecl = LeftParen ∷ Star ∷ Colon ∷ Identifier ∷ TypedefName ∷ []
shared EnumSpec = Enum ∷ []
shared EnRest = LeftBrace ∷ Identifier ∷ TypedefName ∷ []
shared Enumerators = Identifier ∷ TypedefName ∷ []
shared Enumerator = Identifier ∷ TypedefName ∷ []
shared Declarator = declarators
shared Pointer = Star ∷ []
shared Direct = LeftParen ∷ Identifier ∷ TypedefName ∷ []
shared Suffix = LeftBracket ∷ LeftParen ∷ []
shared Bound = expressions
shared Params = Identifier ∷ specifiers
shared Param = specifiers
shared Pdecl = LeftBracket ∷ LeftParen ∷ Star ∷ Identifier ∷ TypedefName ∷ []
shared Pdirect = LeftBracket ∷ LeftParen ∷ Identifier ∷ TypedefName ∷ []
shared TypeName = specifiers
shared Adecl = LeftBracket ∷ LeftParen ∷ Star ∷ []
shared Adirect = LeftBracket ∷ LeftParen ∷ []
shared Init = initializers
shared InitList = initializer_items
shared InitItem = initializer_items
shared Designator = LeftBracket ∷ Dot ∷ []
shared Expr = expressions
shared Assign = expressions
shared Asgop = assignments
shared Cond = expressions
shared Lor = expressions
shared Land = expressions
shared Bor = expressions
shared Bxor = expressions
shared Band = expressions
shared Equal = expressions
shared Relate = expressions
shared Shift = expressions
shared Add = expressions
shared Mul = expressions
shared Cast = expressions
shared CastRest = initializers
shared Unary = expressions
shared SizeRest = expressions
shared SizeLit = LeftBrace ∷ []
shared Primary = LeftParen ∷ Identifier ∷ Constant ∷ CharConstant ∷ StringLiteral ∷ []
shared Post = LeftBracket ∷ LeftParen ∷ Dot ∷ Arrow ∷ PlusPlus ∷ MinusMinus ∷ []
shared Args = expressions
shared Block = LeftBrace ∷ []
shared BlockItem = specifiers ++ statements
shared Statement = statements
shared Sub = statements
shared ForInit = specifiers ++ (Semicolon ∷ expressions)
shared _ = []

-- specifiers that C11 adds (6.7.4)
abbrev pub specifiers_added : List Class
specifiers_added = Noreturn ∷ []

-- what C11 adds where a declaration may stand (6.7.4, 6.7.10)
abbrev pub declarations_added : List Class
declarations_added = Noreturn ∷ StaticAssert ∷ []

-- with which classes it starts by C11 and not by C99
abbrev pub added : Production → List Class
added TranslationUnit = declarations_added
added External = declarations_added
added FunBody = declarations_added
added Declaration = declarations_added
added Sassert = StaticAssert ∷ []
added Specs = specifiers_added
added Mod = specifiers_added
added Members = declarations_added
added Member = declarations_added
added MemRest = LeftParen ∷ Star ∷ Colon ∷ Semicolon ∷ Identifier ∷ TypedefName ∷ []
added Params = specifiers_added
added Param = specifiers_added
added TypeName = specifiers_added
added BlockItem = declarations_added
added ForInit = declarations_added
added _ = []

-- These by C11, and none by C99. The list decides first, so that nothing added is nothing for any edition.
abbrev pub by_c11 : List Class → Edition → List Class
by_c11 [] s = []
by_c11 (c ∷ classes) C99 = []
by_c11 (c ∷ classes) C11 = c ∷ classes

-- with which classes a production starts
abbrev pub first : Production → Edition → List Class
first p s = shared p ++ by_c11 (added p) s

-- the colon that makes a label of the name before it (6.8.1)
abbrev pub before_colon : List (Class × Ask)
before_colon = (TypedefName, is (Colon ∷ [])) ∷ []

-- with which classes it starts where what stands behind is so, beside those
abbrev pub pairs : Production → Edition → List (Class × Ask)
pairs Statement s = before_colon
pairs Sub s = before_colon
pairs _ s = []

-- what a production may begin with, without a token before it, has a lower number
abbrev pub order : Production → ℕ
order TranslationUnit = 4
order External = 3
order ExtRest = 2
order ExtTail = 5
order FunBody = 4
order Declaration = 3
order DeclRest = 3
order InitDecl = 2
order Sassert = 0
order Specs = 2
order Main = 1
order Mod = 1
order Qual = 0
order Word = 0
order StructSpec = 0
order SuRest = 0
order Members = 4
order Member = 3
order MemRest = 3
order Mdecl = 2
order EnumSpec = 0
order EnRest = 0
order Enumerators = 1
order Enumerator = 0
order Declarator = 1
order Pointer = 0
order Direct = 0
order Suffix = 0
order Bound = 15
order Params = 4
order Param = 3
order Pdecl = 2
order Pdirect = 1
order TypeName = 3
order Adecl = 2
order Adirect = 1
order Init = 15
order InitList = 17
order InitItem = 16
order Designator = 0
order Expr = 15
order Assign = 14
order Asgop = 0
order Cond = 13
order Lor = 12
order Land = 11
order Bor = 10
order Bxor = 9
order Band = 8
order Equal = 7
order Relate = 6
order Shift = 5
order Add = 4
order Mul = 3
order Cast = 2
order CastRest = 3
order Unary = 1
order SizeRest = 2
order SizeLit = 0
order Primary = 0
order Post = 0
order Args = 15
order Block = 0
order BlockItem = 17
order Statement = 16
order Sub = 17
order ForInit = 16
order AutoDecl = 0
order Attr = 0
order AttrItem = 1
order AttrWord = 0
order AsmName = 0
order Operand = 0
order Association = 4
order MemberPath = 0
order AsmPart = 0
order AsmOperand = 0
