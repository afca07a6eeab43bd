-- The productions of expressions that are an operand and what an operator joins to it (ISO/IEC 9899:1999, 6.5.5 to 6.5.17).
use Rattle.std.specs.Prelude.{ℕ, Bool, true, false, List, [], ◌∷◌}
use Rattle.c99_grammar.specs.declared.dialects.Dialect.{Dialect}
use Rattle.c99_grammar.specs.declared.dialects.Dialect.TheVariants.{Iso, Gnu}
use Rattle.c99_tree.specs.declared.production.Production.{Production}
use Rattle.c99_tree.specs.declared.production.Production.TheVariants.{Expr, Assign, Asgop, Cond, Lor, Land, Bor, Bxor, Band, Equal, Relate, Shift, Add, Mul, Cast}
use Rattle.c99_grammar.specs.declared.classes.Class.{Class}
use Rattle.c99_grammar.specs.declared.classes.Class.TheVariants.{Comma, Question, Colon, BarBar, AmpAmp, Bar, Caret, Amp, EqEq, BangEq, Less, Greater, LessEq, GreaterEq, ShiftLeft, ShiftRight, Plus, Minus, Star, Slash, Percent, Eq, StarEq, SlashEq, PercentEq, PlusEq, MinusEq, ShiftLeftEq, ShiftRightEq, AmpEq, CaretEq, BarEq}
use Rattle.c99_grammar.specs.Items.{Item, one, part, maybe, many, deep, own, tok, ◌·◌}

abbrev pub is_binary : Production → Bool
is_binary Expr = true
is_binary Assign = true
is_binary Cond = true
is_binary Lor = true
is_binary Land = true
is_binary Bor = true
is_binary Bxor = true
is_binary Band = true
is_binary Equal = true
is_binary Relate = true
is_binary Shift = true
is_binary Add = true
is_binary Mul = true
is_binary _ = false

-- what the first operand is
abbrev pub operand_of : Production → Production
operand_of Expr = Assign
operand_of Assign = Cond
operand_of Cond = Lor
operand_of Lor = Land
operand_of Land = Bor
operand_of Bor = Bxor
operand_of Bxor = Band
operand_of Band = Equal
operand_of Equal = Relate
operand_of Relate = Shift
operand_of Shift = Add
operand_of Add = Mul
operand_of _ = Cast

-- the production whose first operand it is
abbrev pub over : Production → Production
over Cast = Mul
over Mul = Add
over Add = Shift
over Shift = Relate
over Relate = Equal
over Equal = Band
over Band = Bxor
over Bxor = Bor
over Bor = Land
over Land = Lor
over Lor = Cond
over Cond = Assign
over _ = Expr

-- how many stand over `Cast`, up to this one
abbrev pub rungs : Production → ℕ
rungs Expr = 13
rungs Assign = 12
rungs Cond = 11
rungs Lor = 10
rungs Land = 9
rungs Bor = 8
rungs Bxor = 7
rungs Band = 6
rungs Equal = 5
rungs Relate = 4
rungs Shift = 3
rungs Add = 2
rungs Mul = 1
rungs _ = 0

-- over how many the one stands whose operator the class is; over more than all where it is none
abbrev pub rung : Class → ℕ
rung Star = 1
rung Slash = 1
rung Percent = 1
rung Plus = 2
rung Minus = 2
rung ShiftLeft = 3
rung ShiftRight = 3
rung Less = 4
rung Greater = 4
rung LessEq = 4
rung GreaterEq = 4
rung EqEq = 5
rung BangEq = 5
rung Amp = 6
rung Caret = 7
rung Bar = 8
rung AmpAmp = 9
rung BarBar = 10
rung Question = 11
rung Eq = 12
rung StarEq = 12
rung SlashEq = 12
rung PercentEq = 12
rung PlusEq = 12
rung MinusEq = 12
rung ShiftLeftEq = 12
rung ShiftRightEq = 12
rung AmpEq = 12
rung CaretEq = 12
rung BarEq = 12
rung Comma = 13
rung _ = 14

-- it is the first operand of one
abbrev pub is_operand : Production → Bool
is_operand Cast = true
is_operand Mul = true
is_operand Add = true
is_operand Shift = true
is_operand Relate = true
is_operand Equal = true
is_operand Band = true
is_operand Bxor = true
is_operand Bor = true
is_operand Land = true
is_operand Lor = true
is_operand Cond = true
is_operand Assign = true
is_operand _ = false

-- the operators, but those of an assignment
abbrev pub signs : Production → List Class
signs Expr = Comma ∷ []
signs Cond = Question ∷ []
signs Lor = BarBar ∷ []
signs Land = AmpAmp ∷ []
signs Bor = Bar ∷ []
signs Bxor = Caret ∷ []
signs Band = Amp ∷ []
signs Equal = EqEq ∷ BangEq ∷ []
signs Relate = Less ∷ Greater ∷ LessEq ∷ GreaterEq ∷ []
signs Shift = ShiftLeft ∷ ShiftRight ∷ []
signs Add = Plus ∷ Minus ∷ []
signs Mul = Star ∷ Slash ∷ Percent ∷ []
signs _ = []

abbrev pub is_assign : Production → Bool
is_assign Assign = true
is_assign _ = false

-- the second operand of a conditional expression (6.5.15), which may be missing in GNU C
abbrev pub second_operand : Dialect → Item
second_operand (Iso e) = deep (part Expr)
second_operand Gnu = maybe (deep (part Expr))

-- what may follow the first operand
abbrev pub rest_of : Production → Dialect → Item
rest_of Assign d = maybe (part Asgop · deep (part Assign))
rest_of Cond d = maybe (tok Question · second_operand d · tok Colon · deep (part Cond))
rest_of p d = many own (one (signs p) · part (operand_of p))
