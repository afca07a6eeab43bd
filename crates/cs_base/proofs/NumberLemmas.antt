-- Facts on numbers.
use Rattle.std.proofs.Common.{arith, suc, ℕ, ◌+◌, ◌-◌, ◌≡◌}
use Rattle.std.specs.Prelude.{◌%◌}

pub minus_none : (o : ℕ) → o - 0 ≡ o
minus_none o = omega arith

-- what lies behind the first members of a file lies in others
pub one-add : (n : ℕ) → 1 + n ≡ suc n
one-add n = omega arith

pub odd_next : (k : ℕ) → k % 2 ≡ 0 → (k + 1) % 2 ≡ 1
odd_next k e = omega (arith, e)

pub even_next : (k : ℕ) → k % 2 ≡ 1 → (k + 1) % 2 ≡ 0
even_next k e = omega (arith, e)
