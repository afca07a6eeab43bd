-- Which class a spelling has: keywords (ISO/IEC 9899:1999 and 9899:2011, 6.4.1) and punctuators (6.4.6).
use Rattle.std.specs.Prelude.{ℕ, List, [], ◌∷◌, ◌++◌, codes}
use Rattle.c99_grammar.specs.declared.dialects.Edition.{Edition}
use Rattle.c99_grammar.specs.declared.dialects.Edition.TheVariants.{C99, C11}
use Rattle.c99_grammar.specs.declared.classes.Class.{Class}
use Rattle.c99_grammar.specs.declared.classes.Class.TheVariants.{Auto, Break, Case, Char, Const, Continue, Default, Do, Double, Else, Enum, Extern, Float, For, Goto, If, Inline, Int, Long, Register, Restrict, Return, Short, Signed, Sizeof, Static, Struct, Switch, Typedef, Union, Unsigned, Void, Volatile, While, BoolWord, ComplexWord, ImaginaryWord, Alignas, Alignof, Atomic, Generic, Noreturn, StaticAssert, ThreadLocal, AsmWord, TypeofWord, AttributeWord, ExtensionWord, LocalLabelWord, AutoTypeWord, RealPartWord, VaArgWord, OffsetofWord, TypesCompatibleWord, LeftBracket, RightBracket, LeftParen, RightParen, LeftBrace, RightBrace, Dot, Arrow, PlusPlus, MinusMinus, Amp, Star, Plus, Minus, Tilde, Bang, Slash, Percent, ShiftLeft, ShiftRight, Less, Greater, LessEq, GreaterEq, EqEq, BangEq, Caret, Bar, AmpAmp, BarBar, Question, Colon, Semicolon, Ellipsis, Eq, StarEq, SlashEq, PercentEq, PlusEq, MinusEq, ShiftLeftEq, ShiftRightEq, AmpEq, CaretEq, BarEq, Comma, Hash, HashHash}

-- a spelling and its class
abbrev pub Spelled : Type 0
Spelled = List ℕ × Class

-- the keywords of C99
abbrev pub keywords : List Spelled
keywords =
    (codes "auto", Auto) ∷ (codes "break", Break) ∷ (codes "case", Case) ∷ (codes "char", Char) ∷
    (codes "const", Const) ∷ (codes "continue", Continue) ∷ (codes "default", Default) ∷ (codes "do", Do) ∷
    (codes "double", Double) ∷ (codes "else", Else) ∷ (codes "enum", Enum) ∷ (codes "extern", Extern) ∷
    (codes "float", Float) ∷ (codes "for", For) ∷ (codes "goto", Goto) ∷ (codes "if", If) ∷
    (codes "inline", Inline) ∷ (codes "int", Int) ∷ (codes "long", Long) ∷ (codes "register", Register) ∷
    (codes "restrict", Restrict) ∷ (codes "return", Return) ∷ (codes "short", Short) ∷ (codes "signed", Signed) ∷
    (codes "sizeof", Sizeof) ∷ (codes "static", Static) ∷ (codes "struct", Struct) ∷ (codes "switch", Switch) ∷
    (codes "typedef", Typedef) ∷ (codes "union", Union) ∷ (codes "unsigned", Unsigned) ∷ (codes "void", Void) ∷
    (codes "volatile", Volatile) ∷ (codes "while", While) ∷ (codes "_Bool", BoolWord) ∷ (codes "_Complex", ComplexWord) ∷
    (codes "_Imaginary", ImaginaryWord) ∷ []

-- the keywords that C11 adds
abbrev pub keywords_added : List Spelled
keywords_added =
    (codes "_Alignas", Alignas) ∷ (codes "_Alignof", Alignof) ∷ (codes "_Atomic", Atomic) ∷ (codes "_Generic", Generic) ∷
    (codes "_Noreturn", Noreturn) ∷ (codes "_Static_assert", StaticAssert) ∷ (codes "_Thread_local", ThreadLocal) ∷ []

-- the words that GNU C adds
abbrev pub words_of_gnu : List Spelled
words_of_gnu =
    (codes "asm", AsmWord) ∷ (codes "__asm", AsmWord) ∷ (codes "__asm__", AsmWord) ∷
    (codes "typeof", TypeofWord) ∷ (codes "__typeof", TypeofWord) ∷ (codes "__typeof__", TypeofWord) ∷
    (codes "__attribute__", AttributeWord) ∷ (codes "__attribute", AttributeWord) ∷
    (codes "__extension__", ExtensionWord) ∷ (codes "__label__", LocalLabelWord) ∷
    (codes "__auto_type", AutoTypeWord) ∷ (codes "__real__", RealPartWord) ∷ (codes "__real", RealPartWord) ∷
    (codes "__imag__", RealPartWord) ∷ (codes "__imag", RealPartWord) ∷ (codes "__builtin_va_arg", VaArgWord) ∷
    (codes "__builtin_convertvector", VaArgWord) ∷ (codes "__builtin_offsetof", OffsetofWord) ∷
    (codes "__builtin_types_compatible_p", TypesCompatibleWord) ∷ []

-- words of C that GNU C spells in other ways too, and its names of types, which stand where `int` and `float` do
abbrev pub spellings_of_gnu : List Spelled
spellings_of_gnu =
    (codes "__const", Const) ∷ (codes "__const__", Const) ∷ (codes "__volatile", Volatile) ∷
    (codes "__volatile__", Volatile) ∷ (codes "__restrict", Restrict) ∷ (codes "__restrict__", Restrict) ∷
    (codes "__inline", Inline) ∷ (codes "__inline__", Inline) ∷ (codes "__signed", Signed) ∷
    (codes "__signed__", Signed) ∷ (codes "__complex", ComplexWord) ∷ (codes "__complex__", ComplexWord) ∷
    (codes "__alignof", Alignof) ∷ (codes "__alignof__", Alignof) ∷ (codes "__thread", ThreadLocal) ∷
    (codes "__int128", Int) ∷ (codes "__int128_t", Int) ∷ (codes "__uint128_t", Int) ∷
    (codes "_Float16", Float) ∷ (codes "_Float32", Float) ∷ (codes "_Float64", Float) ∷
    (codes "_Float128", Float) ∷ (codes "_Float32x", Float) ∷ (codes "_Float64x", Float) ∷
    (codes "__float80", Float) ∷ (codes "__float128", Float) ∷ (codes "__ibm128", Float) ∷
    (codes "_Decimal32", Float) ∷ (codes "_Decimal64", Float) ∷ (codes "_Decimal128", Float) ∷
    (codes "__builtin_va_list", Float) ∷ []

-- the keywords of an edition
abbrev pub keywords_of : Edition → List Spelled
keywords_of C99 = keywords
keywords_of C11 = keywords ++ keywords_added

-- the keywords of GNU C
abbrev pub gnu_keywords : List Spelled
gnu_keywords = keywords ++ (keywords_added ++ (words_of_gnu ++ spellings_of_gnu))

-- the punctuators; paragraph 3 of 6.4.6 says what the last six stand for
abbrev pub punctuators : List Spelled
punctuators =
    (codes "[", LeftBracket) ∷ (codes "]", RightBracket) ∷ (codes "(", LeftParen) ∷ (codes ")", RightParen) ∷
    (codes "{", LeftBrace) ∷ (codes "}", RightBrace) ∷ (codes ".", Dot) ∷ (codes "->", Arrow) ∷
    (codes "++", PlusPlus) ∷ (codes "--", MinusMinus) ∷ (codes "&", Amp) ∷ (codes "*", Star) ∷
    (codes "+", Plus) ∷ (codes "-", Minus) ∷ (codes "~", Tilde) ∷ (codes "!", Bang) ∷
    (codes "/", Slash) ∷ (codes "%", Percent) ∷ (codes "<<", ShiftLeft) ∷ (codes ">>", ShiftRight) ∷
    (codes "<", Less) ∷ (codes ">", Greater) ∷ (codes "<=", LessEq) ∷ (codes ">=", GreaterEq) ∷
    (codes "==", EqEq) ∷ (codes "!=", BangEq) ∷ (codes "^", Caret) ∷ (codes "|", Bar) ∷
    (codes "&&", AmpAmp) ∷ (codes "||", BarBar) ∷ (codes "?", Question) ∷ (codes ":", Colon) ∷
    (codes ";", Semicolon) ∷ (codes "...", Ellipsis) ∷ (codes "=", Eq) ∷ (codes "*=", StarEq) ∷
    (codes "/=", SlashEq) ∷ (codes "%=", PercentEq) ∷ (codes "+=", PlusEq) ∷ (codes "-=", MinusEq) ∷
    (codes "<<=", ShiftLeftEq) ∷ (codes ">>=", ShiftRightEq) ∷ (codes "&=", AmpEq) ∷ (codes "^=", CaretEq) ∷
    (codes "|=", BarEq) ∷ (codes ",", Comma) ∷ (codes "#", Hash) ∷ (codes "##", HashHash) ∷
    (codes "<:", LeftBracket) ∷ (codes ":>", RightBracket) ∷ (codes "<%", LeftBrace) ∷ (codes "%>", RightBrace) ∷
    (codes "%:", Hash) ∷ (codes "%:%:", HashHash) ∷ []
