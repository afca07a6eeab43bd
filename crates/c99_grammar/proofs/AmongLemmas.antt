-- Classes among sets of them.
use Rattle.std.proofs.Common.{◌≡◌, Bool, true, false, ◌||◌, List, [], ◌∷◌, ◌++◌, refl, sym, ap, ◌∙◌}
use Rattle.std.proofs.Math.Bool.{or_assoc}
use Rattle.c99_grammar.specs.declared.classes.Class.{Class}
use Rattle.c99_grammar.specs.declared.classes.Class.TheVariants.{Auto, Break, Case, Char, Const, Continue, Default, Do, Double, Else, Enum, Extern, Float, For, Goto, If, Inline, Int, Long, Register, Restrict, Return, Short, Signed, Sizeof, Static, Struct, Switch, Typedef, Union, Unsigned, Void, Volatile, While, BoolWord, ComplexWord, ImaginaryWord, Alignas, Alignof, Atomic, Generic, Noreturn, StaticAssert, ThreadLocal, AsmWord, TypeofWord, AttributeWord, ExtensionWord, LocalLabelWord, AutoTypeWord, RealPartWord, VaArgWord, OffsetofWord, TypesCompatibleWord, LeftBracket, RightBracket, LeftParen, RightParen, LeftBrace, RightBrace, Dot, Arrow, PlusPlus, MinusMinus, Amp, Star, Plus, Minus, Tilde, Bang, Slash, Percent, ShiftLeft, ShiftRight, Less, Greater, LessEq, GreaterEq, EqEq, BangEq, Caret, Bar, AmpAmp, BarBar, Question, Colon, Semicolon, Ellipsis, Eq, StarEq, SlashEq, PercentEq, PlusEq, MinusEq, ShiftLeftEq, ShiftRightEq, AmpEq, CaretEq, BarEq, Comma, Hash, HashHash, Identifier, TypedefName, Constant, CharConstant, StringLiteral, End, NoClass}
use Rattle.c99_grammar.specs.Classes.{among, is_same}
use Rattle.c99_grammar.specs.declared.dialects.Edition.TheVariants.{C99, C11}
use Rattle.c99_grammar.specs.First.{every, by_c11}

pub among-append : (xs ys : List Class) (c : Class) → (among xs c || among ys c) ≡ among (xs ++ ys) c
among-append [] ys c = refl
among-append (x ∷ xs) ys c = or_assoc (is_same x c) (among xs c) (among ys c) ∙ ap (λ b. is_same x c || b) (among-append xs ys c)

-- the first of two tests holds, or the second decides
pub in_first : (x a b y : Bool) → x ≡ a → x ≡ true → (a || b) ≡ y → x ≡ y
in_first x a b y at is_true both = is_true ∙ ap (λ v. v || b) (sym is_true) ∙ ap (λ v. v || b) at ∙ both

pub in_second : (x z a b y : Bool) → x ≡ a → x ≡ false → z ≡ b → (a || b) ≡ y → z ≡ y
in_second x z a b y at is_false at_second both =
    at_second ∙ ap (λ v. v || b) (sym is_false) ∙ ap (λ v. v || b) at ∙ both

-- C99 adds nothing
pub among-none : (classes : List Class) (c : Class) → false ≡ among (by_c11 classes C99) c
among-none [] c = refl
among-none (x ∷ classes) c = refl

-- C11 adds all
pub among-all : (classes : List Class) (c : Class) → among classes c ≡ among (by_c11 classes C11) c
among-all [] c = refl
among-all (x ∷ classes) c = refl

pub among-every : (c : Class) → true ≡ among every c
among-every Auto = refl
among-every Break = refl
among-every Case = refl
among-every Char = refl
among-every Const = refl
among-every Continue = refl
among-every Default = refl
among-every Do = refl
among-every Double = refl
among-every Else = refl
among-every Enum = refl
among-every Extern = refl
among-every Float = refl
among-every For = refl
among-every Goto = refl
among-every If = refl
among-every Inline = refl
among-every Int = refl
among-every Long = refl
among-every Register = refl
among-every Restrict = refl
among-every Return = refl
among-every Short = refl
among-every Signed = refl
among-every Sizeof = refl
among-every Static = refl
among-every Struct = refl
among-every Switch = refl
among-every Typedef = refl
among-every Union = refl
among-every Unsigned = refl
among-every Void = refl
among-every Volatile = refl
among-every While = refl
among-every BoolWord = refl
among-every ComplexWord = refl
among-every ImaginaryWord = refl
among-every Alignas = refl
among-every Alignof = refl
among-every Atomic = refl
among-every Generic = refl
among-every Noreturn = refl
among-every StaticAssert = refl
among-every ThreadLocal = refl
among-every AsmWord = refl
among-every TypeofWord = refl
among-every AttributeWord = refl
among-every ExtensionWord = refl
among-every LocalLabelWord = refl
among-every AutoTypeWord = refl
among-every RealPartWord = refl
among-every VaArgWord = refl
among-every OffsetofWord = refl
among-every TypesCompatibleWord = refl
among-every LeftBracket = refl
among-every RightBracket = refl
among-every LeftParen = refl
among-every RightParen = refl
among-every LeftBrace = refl
among-every RightBrace = refl
among-every Dot = refl
among-every Arrow = refl
among-every PlusPlus = refl
among-every MinusMinus = refl
among-every Amp = refl
among-every Star = refl
among-every Plus = refl
among-every Minus = refl
among-every Tilde = refl
among-every Bang = refl
among-every Slash = refl
among-every Percent = refl
among-every ShiftLeft = refl
among-every ShiftRight = refl
among-every Less = refl
among-every Greater = refl
among-every LessEq = refl
among-every GreaterEq = refl
among-every EqEq = refl
among-every BangEq = refl
among-every Caret = refl
among-every Bar = refl
among-every AmpAmp = refl
among-every BarBar = refl
among-every Question = refl
among-every Colon = refl
among-every Semicolon = refl
among-every Ellipsis = refl
among-every Eq = refl
among-every StarEq = refl
among-every SlashEq = refl
among-every PercentEq = refl
among-every PlusEq = refl
among-every MinusEq = refl
among-every ShiftLeftEq = refl
among-every ShiftRightEq = refl
among-every AmpEq = refl
among-every CaretEq = refl
among-every BarEq = refl
among-every Comma = refl
among-every Hash = refl
among-every HashHash = refl
among-every Identifier = refl
among-every TypedefName = refl
among-every Constant = refl
among-every CharConstant = refl
among-every StringLiteral = refl
among-every End = refl
among-every NoClass = refl
