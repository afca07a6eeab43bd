-- The first number that something is true of, and the first answer (this project's).
use Rattle.std.specs.Prelude.{ℕ, zero, suc, ◌+◌, Bool, false, ◌||◌, if◌then◌else◌, Option, None, Some}
use Rattle.std.specs.Option.{option_or}

-- the first of so many numbers from one on of which this is true
abbrev pub first_from : (ℕ → Bool) → ℕ → ℕ → Option ℕ
first_from is from zero = None
first_from is from (suc count) = if is from then Some from else first_from is (from + 1) count

-- the answer for the least number below n that has one
abbrev pub first_answer : {A : Type 0} → (ℕ → Option A) → ℕ → Option A
first_answer answer zero = None
first_answer answer (suc n) = option_or (first_answer answer n) (answer n)

-- it is true of a number below n
abbrev pub is_below : (ℕ → Bool) → ℕ → Bool
is_below is zero = false
is_below is (suc n) = is_below is n || is n
