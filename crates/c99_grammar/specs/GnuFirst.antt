-- With which classes each production starts by GNU C. That these are the right ones is checked against the table.
use Rattle.std.specs.Prelude.{List, [], ◌∷◌, ◌++◌}
use Rattle.c99_tree.specs.declared.production.Production.{Production}
use Rattle.c99_tree.specs.declared.production.Production.TheVariants.{TranslationUnit, External, FunBody, Declaration, Sassert, Specs, Main, Mod, Qual, Members, Member, MemRest, Suffix, Bound, Params, Param, Pdecl, Pdirect, TypeName, Adecl, Adirect, Init, InitList, InitItem, Designator, Expr, Assign, Cond, Lor, Land, Bor, Bxor, Band, Equal, Relate, Shift, Add, Mul, Cast, CastRest, Unary, SizeRest, Primary, Post, Args, BlockItem, Statement, Sub, ForInit, AutoDecl, Attr, AttrItem, AttrWord, AsmName, Operand, Association, MemberPath, AsmPart, AsmOperand}
use Rattle.c99_grammar.specs.declared.classes.Class.{Class}
use Rattle.c99_grammar.specs.declared.classes.Class.TheVariants.{Const, Default, Inline, Restrict, Signed, Sizeof, Volatile, Alignas, Alignof, Atomic, Generic, Noreturn, StaticAssert, ThreadLocal, AsmWord, TypeofWord, AttributeWord, ExtensionWord, LocalLabelWord, AutoTypeWord, RealPartWord, VaArgWord, OffsetofWord, TypesCompatibleWord, LeftBracket, LeftParen, LeftBrace, Dot, Arrow, PlusPlus, MinusMinus, Amp, Star, Plus, Minus, Tilde, Bang, AmpAmp, Colon, Identifier, TypedefName, Constant, CharConstant, StringLiteral}
use Rattle.c99_grammar.specs.Items.{Ask, is, is_not}
use Rattle.c99_grammar.specs.First.{specifiers, shared, added, before_colon}

-- ---- What starts by each edition, but for `[`, which in GNU C begins attributes where another one follows

-- items of an initializer list
abbrev pub items_without_bracket : List Class
items_without_bracket =
    Sizeof ∷ LeftParen ∷ LeftBrace ∷ Dot ∷ PlusPlus ∷ MinusMinus ∷ Amp ∷ Star ∷ Plus ∷ Minus ∷ Tilde ∷ Bang ∷
    Identifier ∷ Constant ∷ CharConstant ∷ StringLiteral ∷ []

abbrev pub without_bracket : Production → List Class
without_bracket Suffix = LeftParen ∷ []
without_bracket Pdecl = LeftParen ∷ Star ∷ Identifier ∷ TypedefName ∷ []
without_bracket Pdirect = LeftParen ∷ Identifier ∷ TypedefName ∷ []
without_bracket Adecl = LeftParen ∷ Star ∷ []
without_bracket Adirect = LeftParen ∷ []
without_bracket InitList = items_without_bracket
without_bracket InitItem = items_without_bracket
without_bracket Designator = Dot ∷ []
without_bracket Post = LeftParen ∷ Dot ∷ Arrow ∷ PlusPlus ∷ MinusMinus ∷ []
without_bracket p = shared p

-- ---- What starts beside these

-- definitions at file level
abbrev pub definitions_of_gnu : List Class
definitions_of_gnu =
    Alignas ∷ Atomic ∷ Noreturn ∷ StaticAssert ∷ ThreadLocal ∷ AsmWord ∷ TypeofWord ∷ AttributeWord ∷ ExtensionWord ∷ []

-- declarations
abbrev pub declarations_of_gnu : List Class
declarations_of_gnu =
    Alignas ∷ Atomic ∷ Noreturn ∷ StaticAssert ∷ ThreadLocal ∷ TypeofWord ∷ AttributeWord ∷ ExtensionWord ∷
    AutoTypeWord ∷ []

-- specifiers
abbrev pub specifiers_of_gnu : List Class
specifiers_of_gnu = Alignas ∷ Atomic ∷ Noreturn ∷ ThreadLocal ∷ TypeofWord ∷ AttributeWord ∷ []

-- types
abbrev pub types_of_gnu : List Class
types_of_gnu = TypeofWord ∷ []

-- specifiers beside the type
abbrev pub modifiers_of_gnu : List Class
modifiers_of_gnu = Alignas ∷ Noreturn ∷ ThreadLocal ∷ AttributeWord ∷ []

-- members
abbrev pub members_of_gnu : List Class
members_of_gnu =
    Alignas ∷ Atomic ∷ Noreturn ∷ StaticAssert ∷ ThreadLocal ∷ TypeofWord ∷ AttributeWord ∷ ExtensionWord ∷ []

-- expressions
abbrev pub expressions_of_gnu : List Class
expressions_of_gnu =
    Alignof ∷ Generic ∷ AmpAmp ∷ ExtensionWord ∷ RealPartWord ∷ VaArgWord ∷ OffsetofWord ∷ TypesCompatibleWord ∷ []

-- primary expressions
abbrev pub primaries_of_gnu : List Class
primaries_of_gnu = Generic ∷ VaArgWord ∷ OffsetofWord ∷ TypesCompatibleWord ∷ []

-- items of blocks
abbrev pub block_items_of_gnu : List Class
block_items_of_gnu =
    Alignas ∷ Alignof ∷ Atomic ∷ Generic ∷ Noreturn ∷ StaticAssert ∷ ThreadLocal ∷ AmpAmp ∷ AsmWord ∷ TypeofWord ∷
    AttributeWord ∷ ExtensionWord ∷ LocalLabelWord ∷ AutoTypeWord ∷ RealPartWord ∷ VaArgWord ∷ OffsetofWord ∷
    TypesCompatibleWord ∷ []

-- statements
abbrev pub statements_of_gnu : List Class
statements_of_gnu =
    Alignof ∷ Generic ∷ AmpAmp ∷ AsmWord ∷ AttributeWord ∷ ExtensionWord ∷ RealPartWord ∷ VaArgWord ∷ OffsetofWord ∷
    TypesCompatibleWord ∷ []

-- first clauses of `for`
abbrev pub first_clauses_of_gnu : List Class
first_clauses_of_gnu =
    Alignas ∷ Alignof ∷ Atomic ∷ Generic ∷ Noreturn ∷ StaticAssert ∷ ThreadLocal ∷ AmpAmp ∷ TypeofWord ∷
    AttributeWord ∷ ExtensionWord ∷ AutoTypeWord ∷ RealPartWord ∷ VaArgWord ∷ OffsetofWord ∷ TypesCompatibleWord ∷ []

-- words of attributes
abbrev pub attribute_words_of_gnu : List Class
attribute_words_of_gnu = Const ∷ Inline ∷ Restrict ∷ Signed ∷ Volatile ∷ Identifier ∷ TypedefName ∷ []

-- associations of `_Generic` (C11 6.5.1.1), beside other specifiers
abbrev pub associations_of_gnu : List Class
associations_of_gnu = Default ∷ Alignas ∷ Atomic ∷ Noreturn ∷ ThreadLocal ∷ TypeofWord ∷ AttributeWord ∷ []

abbrev pub added_by_gnu : Production → List Class
added_by_gnu TranslationUnit = definitions_of_gnu
added_by_gnu External = definitions_of_gnu
added_by_gnu FunBody = declarations_of_gnu
added_by_gnu Declaration = declarations_of_gnu
added_by_gnu Sassert = added Sassert
added_by_gnu Specs = specifiers_of_gnu
added_by_gnu Main = types_of_gnu
added_by_gnu Mod = modifiers_of_gnu
added_by_gnu Members = members_of_gnu
added_by_gnu Member = members_of_gnu
added_by_gnu MemRest = added MemRest
added_by_gnu Bound = expressions_of_gnu
added_by_gnu Params = specifiers_of_gnu
added_by_gnu Param = specifiers_of_gnu
added_by_gnu TypeName = specifiers_of_gnu
added_by_gnu Init = expressions_of_gnu
added_by_gnu InitList = expressions_of_gnu
added_by_gnu InitItem = expressions_of_gnu
added_by_gnu Expr = expressions_of_gnu
added_by_gnu Assign = expressions_of_gnu
added_by_gnu Cond = expressions_of_gnu
added_by_gnu Lor = expressions_of_gnu
added_by_gnu Land = expressions_of_gnu
added_by_gnu Bor = expressions_of_gnu
added_by_gnu Bxor = expressions_of_gnu
added_by_gnu Band = expressions_of_gnu
added_by_gnu Equal = expressions_of_gnu
added_by_gnu Relate = expressions_of_gnu
added_by_gnu Shift = expressions_of_gnu
added_by_gnu Add = expressions_of_gnu
added_by_gnu Mul = expressions_of_gnu
added_by_gnu Cast = expressions_of_gnu
added_by_gnu CastRest = expressions_of_gnu
added_by_gnu Unary = expressions_of_gnu
added_by_gnu SizeRest = expressions_of_gnu
added_by_gnu Primary = primaries_of_gnu
added_by_gnu Args = expressions_of_gnu
added_by_gnu BlockItem = block_items_of_gnu
added_by_gnu Statement = statements_of_gnu
added_by_gnu Sub = statements_of_gnu
added_by_gnu ForInit = first_clauses_of_gnu
added_by_gnu AutoDecl = AutoTypeWord ∷ []
added_by_gnu Attr = AttributeWord ∷ []
added_by_gnu AttrItem = attribute_words_of_gnu
added_by_gnu AttrWord = attribute_words_of_gnu
added_by_gnu AsmName = AsmWord ∷ []
added_by_gnu Operand = LeftParen ∷ []
added_by_gnu Association = associations_of_gnu ++ specifiers
added_by_gnu MemberPath = Identifier ∷ TypedefName ∷ []
added_by_gnu AsmPart = Colon ∷ []
added_by_gnu AsmOperand = LeftBracket ∷ StringLiteral ∷ []
added_by_gnu _ = []

-- with which classes a production starts
abbrev pub gnu_first : Production → List Class
gnu_first p = without_bracket p ++ added_by_gnu p

-- ---- What starts where the class behind is so

-- two brackets begin attributes, and one does not
abbrev pub two_brackets : List (Class × Ask)
two_brackets = (LeftBracket, is (LeftBracket ∷ [])) ∷ []

abbrev pub one_bracket : List (Class × Ask)
one_bracket = (LeftBracket, is_not (LeftBracket ∷ [])) ∷ []

-- `_Atomic` is a qualifier, but for one before a parenthesis, which is a type (C11 6.7.2.4 paragraph 4)
abbrev pub qualifying : List (Class × Ask)
qualifying = (Atomic, is_not (LeftParen ∷ [])) ∷ []

abbrev pub typing : List (Class × Ask)
typing = (Atomic, is (LeftParen ∷ [])) ∷ []

abbrev pub gnu_pairs : Production → List (Class × Ask)
gnu_pairs TranslationUnit = two_brackets
gnu_pairs External = two_brackets
gnu_pairs FunBody = two_brackets
gnu_pairs Declaration = two_brackets
gnu_pairs Specs = two_brackets
gnu_pairs Main = typing
gnu_pairs Mod = qualifying ++ two_brackets
gnu_pairs Qual = qualifying
gnu_pairs Members = two_brackets
gnu_pairs Member = two_brackets
gnu_pairs Suffix = one_bracket
gnu_pairs Params = two_brackets
gnu_pairs Param = two_brackets
gnu_pairs Pdecl = one_bracket
gnu_pairs Pdirect = one_bracket
gnu_pairs TypeName = two_brackets
gnu_pairs Adecl = one_bracket
gnu_pairs Adirect = one_bracket
gnu_pairs InitList = one_bracket ++ before_colon
gnu_pairs InitItem = one_bracket ++ before_colon
gnu_pairs Designator = one_bracket
gnu_pairs Post = one_bracket
gnu_pairs BlockItem = two_brackets
gnu_pairs Statement = before_colon ++ two_brackets
gnu_pairs Sub = before_colon ++ two_brackets
gnu_pairs ForInit = two_brackets
gnu_pairs Attr = two_brackets
gnu_pairs Association = two_brackets
gnu_pairs _ = []
