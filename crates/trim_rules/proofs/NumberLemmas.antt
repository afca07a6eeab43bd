-- The first number that something is true of, as a loop goes up.
use Rattle.std.proofs.Common.{◌≡◌, ℕ, zero, suc, ◌+◌, ◌-◌, ◌<◌, ◌≤◌, Bool, true, false, cond, nat_lt, nat_le, Option, Some, None, refl, sym, ap, ◌∙◌, inl, inr, ◌⊎◌, arith}
use Rattle.std.proofs.lemmas.Bool.{cases_lt, lt-ltb, le-ltb}
use Rattle.std.proofs.lemmas.Bool.Decides.{leb_tells}
use Rattle.trim_rules.specs.Numbers.{first_from}

pub first_from-same : (p q : ℕ → Bool) (from count : ℕ) → ((j : ℕ) → p j ≡ q j) → first_from p from count ≡ first_from q from count
first_from-same p q from zero same = refl
first_from-same p q from (suc count) same =
    ap (λ (b : Bool). cond b (Some from) (first_from p (from + 1) count)) (same from)
    ∙ ap (cond (q from) (Some from)) (first_from-same p q (from + 1) count same)

module _ (p : ℕ → Bool) (k end : ℕ) where
  next : k < end → end - k ≡ suc (end - (k + 1))
  next less = omega (arith, less)

  step : k < end → first_from p k (end - k) ≡ cond (p k) (Some k) (first_from p (k + 1) (end - (k + 1)))
  step less = ap (first_from p k) (next less)

  -- it is true of the next one
  pub first-yes : k < end → p k ≡ true → first_from p k (end - k) ≡ Some k
  first-yes less is = step less ∙ ap (λ (b : Bool). cond b (Some k) (first_from p (k + 1) (end - (k + 1)))) is

  -- it is not
  pub first-no : k < end → p k ≡ false → first_from p k (end - k) ≡ first_from p (k + 1) (end - (k + 1))
  first-no less not = step less ∙ ap (λ (b : Bool). cond b (Some k) (first_from p (k + 1) (end - (k + 1)))) not

  -- none is left
  pub first-none : end ≤ k → first_from p k (end - k) ≡ None
  first-none past =
      let none : end - k ≡ 0 = omega (arith, past) in
      ap (first_from p k) none

-- a number is below another, or not, with what the test says
pub less-or-not : (a b : ℕ) → ((nat_lt a b ≡ true) × (a < b)) ⊎ ((nat_lt a b ≡ false) × (b ≤ a))
less-or-not a b = by (cases_lt a b)
  where
    by : (a < b) ⊎ (b ≤ a) → ((nat_lt a b ≡ true) × (a < b)) ⊎ ((nat_lt a b ≡ false) × (b ≤ a))
    by (inl less) = inl (lt-ltb a b less, less)
    by (inr more) = inr (le-ltb a b more, more)

pub le-or-not : (a b : ℕ) → ((nat_le a b ≡ true) × (a ≤ b)) ⊎ ((nat_le a b ≡ false) × (b < a))
le-or-not a b = leb_tells a b
