-- What the operators of a controlling expression compute, on whole numbers (ISO/IEC 9899:1999, 6.5.3.3,
-- 6.5.5 to 6.5.14). Where the standard leaves a signed result or a shift undefined, the operator
-- overflows. A signed left shift is a product, and a signed right shift rounds down.
use Rattle.std.specs.Prelude.{ℕ, ◌-◌, ◌^◌, ℤ, pos, negsuc, ◌+ℤ◌, ◌-ℤ◌, ◌*ℤ◌, neg_ℤ, Bool, true, false, not, ◌&&◌, ◌||◌, nat_lt, if◌then◌else◌, Option, Some, None, Result, Ok, Err, bit_and, bit_or, bit_xor, int_lt, int_le, int_div, int_rem}
use Rattle.std.specs.Ordering.{int_eq}
use Rattle.std.specs.Int.{int_div_euclid}
use Rattle.cond_eval.specs.declared.faults.CondFault.{CondFault}
use Rattle.cond_eval.specs.declared.faults.CondFault.TheVariants.{DivideByZero, Overflow}
use Rattle.cond_eval.specs.declared.integers.Integer.{Integer}
use Rattle.cond_eval.specs.declared.integers.Integer.TheVariants.{Signed, Unsigned}
use Rattle.cond_eval.specs.declared.operators.Sign.{Sign}
use Rattle.cond_eval.specs.declared.operators.Sign.TheVariants.{Plus, Minus, Complement, Not}
use Rattle.cond_eval.specs.declared.operators.Relation.{Relation}
use Rattle.cond_eval.specs.declared.operators.Relation.TheVariants.{Equal, Unequal, Less, Greater, AtMost, AtLeast}
use Rattle.cond_eval.specs.declared.operators.Arithmetic.{Arithmetic}
use Rattle.cond_eval.specs.declared.operators.Arithmetic.TheVariants.{Product, Quotient, Remainder, Sum, Difference, BitAnd, BitXor, BitOr}
use Rattle.cond_eval.specs.declared.operators.Operator.{Operator}
use Rattle.cond_eval.specs.declared.operators.Operator.TheVariants.{Compute, ShiftLeft, ShiftRight, Compare, And, Or}
use Rattle.cond_eval.specs.Integers.{reduced, is_unsigned, is_nonzero, whole, converted, truth, fit}

-- the complement of a whole number, -z - 1 (6.5.3.3 paragraph 4)
abbrev pub complement : ℤ → ℤ
complement (pos n) = negsuc n
complement (negsuc n) = pos n

-- a unary operator at the index (6.5.3.3)
abbrev pub prefixed : Sign → ℕ → Integer → Result Integer CondFault
prefixed Plus index x = Ok x
prefixed Minus index x = fit (is_unsigned x) index (neg_ℤ (whole x))
prefixed Complement index x = fit (is_unsigned x) index (complement (whole x))
prefixed Not index x = Ok (truth (not (is_nonzero x)))

-- the number whose 64 bits these are, two's complement where it is signed (6.2.6.2 paragraph 2)
abbrev pub with_bits : Bool → ℕ → Integer
with_bits true bits = Unsigned bits
with_bits false bits = Signed (if nat_lt bits (2 ^ 63) then pos bits else negsuc (2 ^ 64 - 1 - bits))

-- a result that has none where the second operand is 0 (6.5.5 paragraph 5)
abbrev pub divided : ℕ → ℤ → Result Integer CondFault → Result Integer CondFault
divided index y result = if int_eq y (pos 0) then Err (DivideByZero index) else result

-- an arithmetic operator at the index, on operands of one type, unsigned or not (6.5.5, 6.5.6, 6.5.10 to
-- 6.5.12); a quotient is truncated toward zero
abbrev pub computed : Arithmetic → ℕ → Bool → ℤ → ℤ → Result Integer CondFault
computed Product index unsigned x y = fit unsigned index (x *ℤ y)
computed Quotient index unsigned x y = divided index y (fit unsigned index (int_div x y))
computed Remainder index unsigned x y = divided index y (fit unsigned index (int_rem x y))
computed Sum index unsigned x y = fit unsigned index (x +ℤ y)
computed Difference index unsigned x y = fit unsigned index (x -ℤ y)
computed BitAnd index unsigned x y = Ok (with_bits unsigned (bit_and (reduced x) (reduced y)))
computed BitXor index unsigned x y = Ok (with_bits unsigned (bit_xor (reduced x) (reduced y)))
computed BitOr index unsigned x y = Ok (with_bits unsigned (bit_or (reduced x) (reduced y)))

-- a relational or an equality operator (6.5.8, 6.5.9)
abbrev pub related : Relation → ℤ → ℤ → Bool
related Equal x y = int_eq x y
related Unequal x y = not (int_eq x y)
related Less x y = int_lt x y
related Greater x y = int_lt y x
related AtMost x y = int_le x y
related AtLeast x y = int_le y x

-- the number of places of a shift: at least 0, and below 64 (6.5.7 paragraph 3)
abbrev pub places_of : ℤ → Option ℕ
places_of (pos n) = if nat_lt n 64 then Some n else None
places_of (negsuc n) = None

-- a number of places, or that the shift at the index overflows
abbrev pub by_places : ℕ → Option ℕ → (ℕ → Result Integer CondFault) → Result Integer CondFault
by_places index None result = Err (Overflow index)
by_places index (Some n) result = result n

-- The operators `<<` and `>>` (6.5.7). The type is that of the left operand alone.
abbrev pub shifted_left : ℕ → Integer → Integer → Result Integer CondFault
shifted_left index x y =
    by_places index (places_of (whole y)) (λ n. fit (is_unsigned x) index (whole x *ℤ pos (2 ^ n)))

abbrev pub shifted_right : ℕ → Integer → Integer → Result Integer CondFault
shifted_right index x y =
    by_places index (places_of (whole y)) (λ n. fit (is_unsigned x) index (int_div_euclid (whole x) (pos (2 ^ n))))

-- whether the usual arithmetic conversions make both operands unsigned (6.3.1.8)
abbrev pub either_unsigned : Integer → Integer → Bool
either_unsigned x y = is_unsigned x || is_unsigned y

-- a binary operator at the index, with both operands evaluated
abbrev pub combined : Operator → ℕ → Integer → Integer → Result Integer CondFault
combined (Compute arithmetic) index x y =
    let unsigned = either_unsigned x y in
    computed arithmetic index unsigned (whole (converted unsigned x)) (whole (converted unsigned y))
combined ShiftLeft index x y = shifted_left index x y
combined ShiftRight index x y = shifted_right index x y
combined (Compare relation) index x y =
    let unsigned = either_unsigned x y in
    Ok (truth (related relation (whole (converted unsigned x)) (whole (converted unsigned y))))
combined And index x y = Ok (truth (is_nonzero x && is_nonzero y))
combined Or index x y = Ok (truth (is_nonzero x || is_nonzero y))

-- what inner functions promise each other: a signed result where there is one
abbrev pub fitted : ℕ → Option ℤ → Result Integer CondFault
fitted index None = Err (Overflow index)
fitted index (Some z) = Ok (Signed z)
