-- Integers of the two types of a controlling expression, as whole numbers with a mark for unsigned
-- (ISO/IEC 9899:1999, 6.10.1 paragraph 3: `intmax_t` and `uintmax_t`, here of 64 bits).
use Rattle.std.specs.Prelude.{ℕ, ◌-◌, ◌%◌, ◌^◌, ℤ, pos, negsuc, Bool, true, false, not, nat_lt, if◌then◌else◌, Result, Ok, Err}
use Rattle.std.specs.Ordering.{int_eq}
use Rattle.cond_eval.specs.declared.integers.Integer.{Integer}
use Rattle.cond_eval.specs.declared.integers.Integer.TheVariants.{Signed, Unsigned}
use Rattle.cond_eval.specs.declared.faults.CondFault.{CondFault}
use Rattle.cond_eval.specs.declared.faults.CondFault.TheVariants.{Overflow}

-- what is left of a whole number modulo 2^64 (6.3.1.3 paragraph 2); `negsuc n` is -(n + 1)
abbrev pub reduced : ℤ → ℕ
reduced (pos n) = n % 2 ^ 64
reduced (negsuc n) = 2 ^ 64 - 1 - n % 2 ^ 64

-- whether a whole number is in range of the signed type: from -2^63 to 2^63 - 1
abbrev pub is_signed_value : ℤ → Bool
is_signed_value (pos n) = nat_lt n (2 ^ 63)
is_signed_value (negsuc n) = nat_lt n (2 ^ 63)

abbrev pub is_unsigned : Integer → Bool
is_unsigned (Signed z) = false
is_unsigned (Unsigned n) = true

-- the whole number, without its mark
abbrev pub whole : Integer → ℤ
whole (Signed z) = z
whole (Unsigned n) = pos n

-- the value that compares unequal to 0 (6.5.13, 6.5.14, 6.5.15)
abbrev pub is_nonzero : Integer → Bool
is_nonzero x = not (int_eq (whole x) (pos 0))

-- conversion to the unsigned type (6.3.1.3 paragraph 2)
abbrev pub as_unsigned : Integer → ℕ
as_unsigned (Signed z) = reduced z
as_unsigned (Unsigned n) = n

-- an operand after the usual arithmetic conversions (6.3.1.8), where one of the two is unsigned or not
abbrev pub converted : Bool → Integer → Integer
converted true x = Unsigned (as_unsigned x)
converted false x = x

-- zero of the type
abbrev pub zero_of : Bool → Integer
zero_of true = Unsigned 0
zero_of false = Signed (pos 0)

-- signed 1 or 0 (6.5.8 paragraph 6)
abbrev pub truth : Bool → Integer
truth true = Signed (pos 1)
truth false = Signed (pos 0)

-- a result in its type: an unsigned one is reduced (6.2.5 paragraph 9), a signed one must be in range
-- (6.5 paragraph 5), or the operator at the index overflows
abbrev pub fit : Bool → ℕ → ℤ → Result Integer CondFault
fit true index z = Ok (Unsigned (reduced z))
fit false index z = if is_signed_value z then Ok (Signed z) else Err (Overflow index)
