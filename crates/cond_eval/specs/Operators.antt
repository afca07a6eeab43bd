-- The operators of a controlling expression and how tightly they bind (ISO/IEC 9899:1999, 6.5.3.3, 6.5.5
-- to 6.5.14). Differs: no assignment, no comma, no cast and no `sizeof` (6.10.1 footnote 140 and 6.6
-- paragraph 3 leave none of them in a controlling expression).
use Rattle.std.specs.Prelude.{ℕ, if◌then◌else◌, Option, Some, None, List, [], ◌∷◌, codes}
use Rattle.std.specs.Str.{bytes_eq}
use Rattle.cond_eval.specs.declared.operators.Sign.{Sign}
use Rattle.cond_eval.specs.declared.operators.Sign.TheVariants.{Plus, Minus, Complement, Not}
use Rattle.cond_eval.specs.declared.operators.Relation.TheVariants.{Equal, Unequal, Less, Greater, AtMost, AtLeast}
use Rattle.cond_eval.specs.declared.operators.Arithmetic.TheVariants.{Product, Quotient, Remainder, Sum, Difference, BitAnd, BitXor, BitOr}
use Rattle.cond_eval.specs.declared.operators.Operator.{Operator}
use Rattle.cond_eval.specs.declared.operators.Operator.TheVariants.{Compute, ShiftLeft, ShiftRight, Compare, And, Or}

-- what a spelling stands for in a table
abbrev pub meaning_in : {X : Type 0} → List (List ℕ × X) → List ℕ → Option X
meaning_in [] text = None
meaning_in (row ∷ rows) text = if bytes_eq text row.0 then Some row.1 else meaning_in rows text

-- binary operators, the tightest first
abbrev pub operators : List (List ℕ × Operator)
operators =
    (codes "*", Compute Product) ∷ (codes "/", Compute Quotient) ∷ (codes "%", Compute Remainder)
    ∷ (codes "+", Compute Sum) ∷ (codes "-", Compute Difference)
    ∷ (codes "<<", ShiftLeft) ∷ (codes ">>", ShiftRight)
    ∷ (codes "<", Compare Less) ∷ (codes ">", Compare Greater)
    ∷ (codes "<=", Compare AtMost) ∷ (codes ">=", Compare AtLeast)
    ∷ (codes "==", Compare Equal) ∷ (codes "!=", Compare Unequal)
    ∷ (codes "&", Compute BitAnd) ∷ (codes "^", Compute BitXor) ∷ (codes "|", Compute BitOr)
    ∷ (codes "&&", And) ∷ (codes "||", Or) ∷ []

-- unary operators (6.5.3.3)
abbrev pub signs : List (List ℕ × Sign)
signs = (codes "+", Plus) ∷ (codes "-", Minus) ∷ (codes "~", Complement) ∷ (codes "!", Not) ∷ []

-- the binary operator with this spelling
unfoldable pub operator_of : List ℕ → Option Operator
operator_of text = meaning_in operators text

-- the unary operator with this spelling
unfoldable pub sign_of : List ℕ → Option Sign
sign_of text = meaning_in signs text

-- The level of a binary operator, 1 for the tightest: multiplicative (6.5.5), additive (6.5.6), shift
-- (6.5.7), relational (6.5.8), equality (6.5.9), AND (6.5.10), exclusive OR (6.5.11), inclusive OR
-- (6.5.12), logical AND (6.5.13), logical OR (6.5.14).
abbrev pub level_of : Operator → ℕ
level_of (Compute Product) = 1
level_of (Compute Quotient) = 1
level_of (Compute Remainder) = 1
level_of (Compute Sum) = 2
level_of (Compute Difference) = 2
level_of ShiftLeft = 3
level_of ShiftRight = 3
level_of (Compare Less) = 4
level_of (Compare Greater) = 4
level_of (Compare AtMost) = 4
level_of (Compare AtLeast) = 4
level_of (Compare Equal) = 5
level_of (Compare Unequal) = 5
level_of (Compute BitAnd) = 6
level_of (Compute BitXor) = 7
level_of (Compute BitOr) = 8
level_of And = 9
level_of Or = 10
