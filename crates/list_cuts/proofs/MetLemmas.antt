-- Which numbers an order was seen to have.
use Rattle.std.proofs.Common.{ℕ, zero, suc, ◌≡◌, ◌+◌, ◌<◌, Bool, true, false, List, length, get_or, refl, sym, ◌∙◌, arith, inl, inr}
use Rattle.std.specs.Prelude.{◌==◌, ◌&&◌}
use Rattle.std.specs.List.{list_all}
use Rattle.std.proofs.lemmas.Bool.{cases_Bool, and_from, eq-eqb}
use Rattle.list_cuts.specs.Cuts.{numbers}
use Rattle.list_cuts.specs.Orders.{has_number, is_order}

-- each number from 1 on is marked where it is among those that were looked at
pub record IsMet (count : ℕ) (seen : List ℕ) (met : List Bool) : Type 0 where
  pub many : length met ≡ count
  pub marked : (k : ℕ) → k < count → get_or met k false ≡ has_number seen (k + 1)

pub all_numbers : (order : List ℕ) (n from : ℕ) → ((k : ℕ) → k < n → has_number order (from + k) ≡ true) → list_all (has_number order) (numbers from n) ≡ true
unfolding numbers
all_numbers order zero from h = refl
all_numbers order (suc n) from h =
    let same : from + 0 ≡ from = omega arith in
    let first : has_number order from ≡ true = rw same at (h 0 (omega arith)) in
    let rest = all_numbers order n (from + 1) (λ k lt. let on : from + 1 + k ≡ from + suc k = omega arith in rw on (h (suc k) (omega (arith, lt)))) in
    rw first rest

one_missing : (order : List ℕ) (n from k : ℕ) → k < n → has_number order (from + k) ≡ false → list_all (has_number order) (numbers from n) ≡ false
unfolding numbers
one_missing order zero from k lt h = absurd (omega (arith, lt))
one_missing order (suc n) from zero lt h =
    let same : from + 0 ≡ from = omega arith in
    let first : has_number order from ≡ false = rw same at h in
    rw first refl
one_missing order (suc n) from (suc k) lt h =
    let on : from + suc k ≡ from + 1 + k = omega arith in
    let rest = one_missing order n (from + 1) k (omega (arith, lt)) (rw on at h) in
    elim (cases_Bool (has_number order from)) [ inl here ↦ rw here rest | inr not ↦ rw not refl ]

pub all_met : (count : ℕ) (order : List ℕ) (met : List Bool) → length order ≡ count → IsMet count order met
    → ((k : ℕ) → k < length met → get_or met k false ≡ true) → true ≡ is_order count order
all_met count order met many is each =
    sym (and_from (length order == count) (list_all (has_number order) (numbers 1 count)) (eq-eqb (length order) count many)
    (all_numbers order count 1 (λ k lt. let on : 1 + k ≡ k + 1 = omega arith in rw on (sym (is.marked k lt) ∙ each k (rw is.many lt)))))

pub one_missed : (count k : ℕ) (order : List ℕ) (met : List Bool) → length order ≡ count → IsMet count order met
    → k < length met → get_or met k false ≡ false → false ≡ is_order count order
one_missed count k order met many is lt h =
    let few : k < count = rw is.many at lt in
    let on : 1 + k ≡ k + 1 = omega arith in
    let missing : has_number order (1 + k) ≡ false = rw on (sym (is.marked k few) ∙ h) in
    rw (one_missing order count 1 k few missing) (and_none (length order == count))
  where
    and_none : (b : Bool) → false ≡ (b && false)
    and_none true = refl
    and_none false = refl
