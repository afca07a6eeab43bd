-- What inner functions promise each other: reading and evaluating at once. In a part that is not live,
-- which is read and not evaluated, a number is the zero of its type.
use Rattle.std.specs.Prelude.{ℕ, zero, suc, ◌+◌, ◌<◌, ◌≤◌, Bool, not, ◌&&◌, if◌then◌else◌, Result, Ok, Err, List, length, codes}
use Rattle.cs_base.specs.Token.{Token}
use Rattle.cond_eval.specs.declared.faults.CondFault.{CondFault}
use Rattle.cond_eval.specs.declared.faults.CondFault.TheVariants.{Syntax, TooDeep}
use Rattle.cond_eval.specs.declared.integers.Integer.{Integer}
use Rattle.cond_eval.specs.declared.operators.Sign.{Sign}
use Rattle.cond_eval.specs.declared.operators.Operator.{Operator}
use Rattle.cond_eval.specs.declared.places.Beginning.{Beginning}
use Rattle.cond_eval.specs.declared.places.Beginning.TheVariants.{Whole, Unary, Open, Nothing}
use Rattle.cond_eval.specs.declared.walk.Walked.{Walked}
use Rattle.cond_eval.specs.Integers.{is_unsigned, is_nonzero, converted, zero_of}
use Rattle.cond_eval.specs.Arithmetic.{prefixed, combined}
use Rattle.cond_eval.specs.Evaluation.{prefix_unsigned, infix_unsigned, is_decided}
use Rattle.cond_eval.specs.Reading.{Rule, Expression, Operand, and_then, with_operator, is_punct, operator_at, beginning_at}

abbrev pub walked : Integer → ℕ → Walked
walked number next = record { number = number; next = next }

-- an operand begins only with a token
abbrev pub BeginsInside : Beginning → Type 0 → Type 0
BeginsInside (Whole n) P = P
BeginsInside (Unary sign) P = P
BeginsInside Open P = P
BeginsInside Nothing P = Unit {0}

-- a place behind another one, in the list or at its end
pub record IsAfter (toks : List Token) (at : ℕ) (w : Walked) : Type 0 where
  pub before : at < w.next
  pub inside : w.next ≤ length toks

-- a constant
abbrev pub kept : Bool → Integer → Integer
kept live n = if live then n else zero_of (is_unsigned n)

-- the number of a unary operator
abbrev pub prefix_number : Bool → Sign → ℕ → Integer → Result Integer CondFault
prefix_number live sign index x =
    if live then prefixed sign index x else Ok (zero_of (prefix_unsigned sign (is_unsigned x)))

-- the number of a binary operator
abbrev pub infix_number : Bool → Operator → ℕ → Integer → Integer → Result Integer CondFault
infix_number live operator index x y =
    if live then combined operator index x y
    else Ok (zero_of (infix_unsigned operator (is_unsigned x) (is_unsigned y)))

-- the number of a `?`, by those of its three operands
abbrev pub choice_number : Integer → Integer → Integer → Integer
choice_number x y z = if is_nonzero x then converted (is_unsigned z) y else converted (is_unsigned y) z

-- live or not, by a rule, behind the opening token at a place
abbrev pub Within : Type 0
Within = Bool → Rule → ℕ → Result Walked CondFault

-- a number, and the place behind it
abbrev pub numbered : Result Integer CondFault → ℕ → Result Walked CondFault
numbered number next = and_then number (λ n. Ok (walked n next))

abbrev pub walk_closed : List Token → Walked → Result Walked CondFault
walk_closed toks w =
    if is_punct toks w.next (codes ")") then Ok (walked w.number (w.next + 1)) else Err (Syntax w.next)

abbrev pub walk_from : Within → List Token → Bool → ℕ → Beginning → Result Walked CondFault
walk_from within toks live at (Whole n) = Ok (walked (kept live n) (at + 1))
walk_from within toks live at (Unary sign) =
    and_then (within live Operand at) (λ w. numbered (prefix_number live sign at w.number) w.next)
walk_from within toks live at Open = and_then (within live Expression at) (walk_closed toks)
walk_from within toks live at Nothing = Err (Syntax at)

unfoldable pub walk_operand : Within → List Token → Bool → ℕ → Result Walked CondFault
walk_operand within toks live at = walk_from within toks live at (beginning_at toks at)

-- how to walk over an operand of a level, live or not, at a place
abbrev pub Part : Type 0
Part = Bool → ℕ → Result Walked CondFault

-- an operator behind a left operand, and the right operand
abbrev pub walk_joined : Part → Bool → Walked → Operator → Result Walked CondFault
walk_joined part live left operator =
    and_then (part (live && not (is_decided operator left.number)) (left.next + 1)) (λ right.
    numbered (infix_number live operator left.next left.number right.number) right.next)

unfoldable pub walk_chain : Part → List Token → Bool → ℕ → ℕ → Walked → Result Walked CondFault
walk_chain part toks live level zero left = Ok left
walk_chain part toks live level (suc most) left =
    with_operator (operator_at toks level left.next) (Ok left) (λ operator.
    and_then (walk_joined part live left operator) (walk_chain part toks live level most))

unfoldable pub walk_binary : Within → List Token → ℕ → Part
walk_binary within toks zero live at = walk_operand within toks live at
walk_binary within toks (suc level) live at =
    and_then (walk_binary within toks level live at)
    (walk_chain (walk_binary within toks level) toks live (suc level) (length toks))

abbrev pub walk_branches : Within → List Token → Bool → Walked → Result Walked CondFault
walk_branches within toks live condition =
    and_then (within (live && is_nonzero condition.number) Expression condition.next) (λ second.
    if is_punct toks second.next (codes ":") then
    and_then (within (live && not (is_nonzero condition.number)) Expression second.next) (λ third.
    Ok (walked (choice_number condition.number second.number third.number) third.next))
    else Err (Syntax second.next))

unfoldable pub walk_conditional : Within → List Token → Bool → ℕ → Result Walked CondFault
walk_conditional within toks live at =
    and_then (walk_binary within toks 10 live at) (λ condition.
    if is_punct toks condition.next (codes "?") then walk_branches within toks live condition else Ok condition)

abbrev pub walk_by : Within → List Token → Bool → Rule → ℕ → Result Walked CondFault
walk_by within toks live Expression at = walk_conditional within toks live at
walk_by within toks live Operand at = walk_operand within toks live at

unfoldable pub walk_enclosed : List Token → ℕ → Within
walk_enclosed toks zero live rule at = Err (TooDeep at)
walk_enclosed toks (suc room) live rule at = walk_by (walk_enclosed toks room) toks live rule (at + 1)

-- all that follows an operand of a level
abbrev pub walk_rest : Part → List Token → Bool → ℕ → Walked → Result Walked CondFault
walk_rest part toks live level left = walk_chain part toks live level (length toks) left
