-- Conditional expressions on integers, read from tokens into trees (ISO/IEC 9899:1999, 6.5.3 to 6.5.15,
-- 6.6, 6.10.1). Differs: no comma, assignment, cast, `sizeof` or unary `*`, `&`, `++` and `--`. At most 256
-- parentheses, unary operators and `?` enclose one another, which is this project's own limit.
use Rattle.std.specs.Prelude.{ℕ, zero, suc, ◌+◌, pos, Bool, true, false, ◌==◌, nat_lt, if◌then◌else◌, Option, Some, None, Result, Ok, Err, List, length, slice_get, codes}
use Rattle.std.specs.Option.{option_and_then}
use Rattle.std.specs.Str.{bytes_eq}
use Rattle.cs_base.specs.declared.tokens.Kind.{Kind}
use Rattle.cs_base.specs.declared.tokens.Kind.TheVariants.{Ident, Number, Char, Punct}
use Rattle.cs_base.specs.Token.{Token}
use Rattle.cond_eval.specs.declared.faults.CondFault.{CondFault}
use Rattle.cond_eval.specs.declared.faults.CondFault.TheVariants.{Syntax, TooDeep}
use Rattle.cond_eval.specs.declared.integers.Integer.{Integer}
use Rattle.cond_eval.specs.declared.integers.Integer.TheVariants.{Signed}
use Rattle.cond_eval.specs.declared.operators.Sign.{Sign}
use Rattle.cond_eval.specs.declared.operators.Operator.{Operator}
use Rattle.cond_eval.specs.declared.places.Beginning.{Beginning}
use Rattle.cond_eval.specs.declared.places.Beginning.TheVariants.{Whole, Unary, Open, Nothing}
use Rattle.cond_eval.specs.Operators.{operator_of, sign_of, level_of}
use Rattle.cond_eval.specs.IntegerConstant.{integer_constant}
use Rattle.cond_eval.specs.CharConstant.{char_constant}

-- ---- tokens

abbrev pub is_punctuator : Kind → Bool
is_punctuator Punct = true
is_punctuator _ = false

-- the spelling of a punctuator at a place
abbrev pub punctuator_at : List Token → ℕ → Option (List ℕ)
punctuator_at toks at =
    option_and_then (λ (t : Token). if is_punctuator t.kind then Some t.text else None) (slice_get toks at)

abbrev pub is_spelling : List ℕ → Option (List ℕ) → Bool
is_spelling text None = false
is_spelling text (Some spelling) = bytes_eq spelling text

-- whether this punctuator stands at a place
unfoldable pub is_punct : List Token → ℕ → List ℕ → Bool
is_punct toks at text = is_spelling text (punctuator_at toks at)

abbrev pub of_level : ℕ → Option Operator → Option Operator
of_level level None = None
of_level level (Some operator) = if level_of operator == level then Some operator else None

-- the binary operator of a level that stands at a place
unfoldable pub operator_at : List Token → ℕ → ℕ → Option Operator
operator_at toks level at = of_level level (option_and_then operator_of (punctuator_at toks at))

-- a constant, if there is one
abbrev pub whole_or_nothing : Option Integer → Beginning
whole_or_nothing None = Nothing
whole_or_nothing (Some n) = Whole n

-- a unary operator, if there is one
abbrev pub unary_or_nothing : Option Sign → Beginning
unary_or_nothing None = Nothing
unary_or_nothing (Some sign) = Unary sign

-- how an operand begins with a token: an identifier counts as 0, keywords too (6.10.1 paragraph 4)
abbrev pub beginning_of : Kind → List ℕ → Beginning
beginning_of Ident text = Whole (Signed (pos 0))
beginning_of Number text = whole_or_nothing (integer_constant text)
beginning_of Char text = whole_or_nothing (char_constant text)
beginning_of Punct text = if bytes_eq text (codes "(") then Open else unary_or_nothing (sign_of text)
beginning_of _ text = Nothing

abbrev pub beginning_with : Option Token → Beginning
beginning_with None = Nothing
beginning_with (Some t) = beginning_of t.kind t.text

-- how an operand begins at a place
unfoldable pub beginning_at : List Token → ℕ → Beginning
beginning_at toks at = beginning_with (slice_get toks at)

-- ---- trees

pub data Tree : Type 0 where
  Constant : Integer → Tree
  Prefix : Sign → ℕ → Tree → Tree
  Infix : Operator → ℕ → Tree → Tree → Tree
  Choice : Tree → Tree → Tree → Tree

-- a tree, and the place behind what it was read from
pub record Read : Type 0 where
  pub tree : Tree
  pub next : ℕ

abbrev pub read : Tree → ℕ → Read
read tree next = record { tree = tree; next = next }

-- one step after another: the first fault ends it
abbrev pub and_then : {A B : Type 0} → Result A CondFault → (A → Result B CondFault) → Result B CondFault
and_then (Ok a) next = next a
and_then (Err fault) next = Err fault

-- What stands behind an opening token: the whole expression in parentheses and each of the two behind a
-- `?`, or the operand of a unary operator.
pub data Rule : Type 0 where
  Expression : Rule
  Operand : Rule

-- how to read by a rule what stands behind the opening token at a place
abbrev pub Inner : Type 0
Inner = Rule → ℕ → Result Read CondFault

-- ---- reading

-- the closing parenthesis behind an expression
abbrev pub closed : List Token → Read → Result Read CondFault
closed toks r = if is_punct toks r.next (codes ")") then Ok (read r.tree (r.next + 1)) else Err (Syntax r.next)

-- unary-expression (6.5.3) and primary-expression (6.5.1)
abbrev pub operand_from : Inner → List Token → ℕ → Beginning → Result Read CondFault
operand_from inner toks at (Whole n) = Ok (read (Constant n) (at + 1))
operand_from inner toks at (Unary sign) = and_then (inner Operand at) (λ r. Ok (read (Prefix sign at r.tree) r.next))
operand_from inner toks at Open = and_then (inner Expression at) (closed toks)
operand_from inner toks at Nothing = Err (Syntax at)

unfoldable pub operand : Inner → List Token → ℕ → Result Read CondFault
operand inner toks at = operand_from inner toks at (beginning_at toks at)

abbrev pub with_operator : {A : Type 0} → Option Operator → A → (Operator → A) → A
with_operator None none some = none
with_operator (Some operator) none some = some operator

-- an operator behind a left operand, and the right operand
abbrev pub joined : (ℕ → Result Read CondFault) → Read → Operator → Result Read CondFault
joined part left operator =
    and_then (part (left.next + 1)) (λ right. Ok (read (Infix operator left.next left.tree right.tree) right.next))

-- What follows an operand of a level: operators of the level and further operands, grouped to the left.
-- The number is how many operators may follow at most: there are no more than tokens.
unfoldable pub chain : (ℕ → Result Read CondFault) → List Token → ℕ → ℕ → Read → Result Read CondFault
chain part toks level zero left = Ok left
chain part toks level (suc most) left =
    with_operator (operator_at toks level left.next) (Ok left) (λ operator.
    and_then (joined part left operator) (chain part toks level most))

-- multiplicative-expression (6.5.5), level 1, to logical-OR-expression (6.5.14), level 10
unfoldable pub binary : Inner → List Token → ℕ → ℕ → Result Read CondFault
binary inner toks zero at = operand inner toks at
binary inner toks (suc level) at =
    and_then (binary inner toks level at) (chain (binary inner toks level) toks (suc level) (length toks))

-- the second and third operands behind a `?`
abbrev pub branches : Inner → List Token → Read → Result Read CondFault
branches inner toks condition =
    and_then (inner Expression condition.next) (λ second.
    if is_punct toks second.next (codes ":") then
    and_then (inner Expression second.next) (λ third.
    Ok (read (Choice condition.tree second.tree third.tree) third.next))
    else Err (Syntax second.next))

-- conditional-expression (6.5.15)
unfoldable pub conditional : Inner → List Token → ℕ → Result Read CondFault
conditional inner toks at =
    and_then (binary inner toks 10 at) (λ condition.
    if is_punct toks condition.next (codes "?") then branches inner toks condition else Ok condition)

abbrev pub by_rule : Inner → List Token → Rule → ℕ → Result Read CondFault
by_rule inner toks Expression at = conditional inner toks at
by_rule inner toks Operand at = operand inner toks at

-- what stands behind an opening token where so many more may open inside one another
unfoldable pub enclosed : List Token → ℕ → Inner
enclosed toks zero rule at = Err (TooDeep at)
enclosed toks (suc room) rule at = by_rule (enclosed toks room) toks rule (at + 1)

abbrev pub depth_limit : ℕ
depth_limit = 256

-- the tree of the whole list, or the first fault of syntax
unfoldable pub tree_of : List Token → Result Tree CondFault
tree_of toks =
    and_then (conditional (enclosed toks depth_limit) toks 0) (λ r.
    if nat_lt r.next (length toks) then Err (Syntax r.next) else Ok r.tree)
