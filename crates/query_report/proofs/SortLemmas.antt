-- A list in order is the only one with its numbers that is sorted, where only equal numbers tie.
use Rattle.std.proofs.Common.{◌≡◌, ℕ, suc, ◌+◌, ◌<◌, ◌≤◌, Bool, true, false, cond, List, [], ◌∷◌, length, get_or, refl, sym, ap, ◌∙◌, ⊎_elim, arith}
use Rattle.std.specs.Prelude.{◌==◌}
use Rattle.std.specs.Cmp.{IsTotalOrder, IsStrictWeakOrder}
use Rattle.std.specs.Fn.{Called}
use Rattle.std.specs.List.{list_any, sum_by}
use Rattle.std.specs.List.Sorted.{IsPermutation, IsSortedBy, IsSortedByClosure}
use Rattle.std.specs.Ordering.{is_lt, ordering_reverse}
use Rattle.std.specs.declared.cmp.Ordering.{Ordering}
use Rattle.std.specs.declared.cmp.Ordering.TheVariants.{Less, Equal, Greater}
use Rattle.std.proofs.lemmas.Bool.{cases_Bool, cond_both, eqb-true, eq-eqb}
use Rattle.std.proofs.lemmas.Fn.{always_returns_same}
use Rattle.std.proofs.lemmas.List.Sums.{sum_by-cons}
use Rattle.std.proofs.lemmas.List.Sorted.{ranks_by, sorted_far, sum_by-IsPermutation}
use denote.Param.Members.{Mut}
use denote.Ref.{Bor}
use Rattle.query_report.specs.Order.{placed, in_order}

-- Of two numbers that tie, one is the other.
pub record IsStrict (cmp : ℕ → ℕ → Ordering) : Type 0 where
  pub total : IsTotalOrder cmp
  pub tie : (m n : ℕ) → cmp m n ≡ Equal → m ≡ n

-- no number of the list comes before this one
abbrev Above : (ℕ → ℕ → Ordering) → ℕ → List ℕ → Type 0
Above cmp n [] = Unit {0}
Above cmp n (m ∷ ms) = (is_lt (cmp m n) ≡ false) × Above cmp n ms

-- no number comes before an earlier one
abbrev Up : (ℕ → ℕ → Ordering) → List ℕ → Type 0
Up cmp [] = Unit {0}
Up cmp (n ∷ ns) = Above cmp n ns × Up cmp ns

above_of : (cmp : ℕ → ℕ → Ordering) (n : ℕ) (ms : List ℕ)
    → ((k : ℕ) → k < length ms → is_lt (cmp (get_or ms k 0) n) ≡ false) → Above cmp n ms
above_of cmp n [] h = tt
above_of cmp n (m ∷ ms) h = (h 0 (omega arith), above_of cmp n ms (λ k within. h (suc k) (omega arith)))

up_of : (cmp : ℕ → ℕ → Ordering) (ns : List ℕ)
    → ((i j : ℕ) → i ≤ j → j < length ns → is_lt (cmp (get_or ns j 0) (get_or ns i 0)) ≡ false) → Up cmp ns
up_of cmp [] h = tt
up_of cmp (n ∷ ns) h = (
  above_of cmp n ns (λ k within. h 0 (suc k) (omega arith) (omega arith)),
  up_of cmp ns (λ i j below within. h (suc i) (suc j) (omega arith) (omega arith)),
)

-- ---- a list without one number

without : ℕ → List ℕ → List ℕ
without x [] = []
without x (m ∷ ms) = cond (m == x) ms (m ∷ without x ms)

-- a number is in a list, and how often it is there
abbrev has : ℕ → List ℕ → Bool
has x ms = list_any (λ m. m == x) ms

times : ℕ → List ℕ → ℕ
times x [] = 0
times x (m ∷ ms) = cond (m == x) 1 0 + times x ms

times-sum_by : (x : ℕ) (ms : List ℕ) → times x ms ≡ sum_by (λ m. cond (m == x) 1 0) ms
unfolding times
times-sum_by x [] = refl
times-sum_by x (m ∷ ms) =
    ap (λ n. cond (m == x) 1 0 + n) (times-sum_by x ms) ∙ sym (sum_by-cons (λ m. cond (m == x) 1 0) m ms)

above-without : (cmp : ℕ → ℕ → Ordering) (n x : ℕ) (ms : List ℕ) → Above cmp n ms → Above cmp n (without x ms)
unfolding without
above-without cmp n x [] h = tt
above-without cmp n x (m ∷ ms) h =
    cond_both (m == x) ms (m ∷ without x ms) (Above cmp n) (λ _. h.1) (λ _. (h.0, above-without cmp n x ms h.1))

up-without : (cmp : ℕ → ℕ → Ordering) (x : ℕ) (ms : List ℕ) → Up cmp ms → Up cmp (without x ms)
unfolding without
up-without cmp x [] h = tt
up-without cmp x (m ∷ ms) h =
    cond_both (m == x) ms (m ∷ without x ms) (Up cmp) (λ _. h.1) (λ _. (above-without cmp m x ms h.0, up-without cmp x ms h.1))

has-times : (x : ℕ) (ms : List ℕ) → 0 < times x ms → has x ms ≡ true
unfolding times
has-times x [] h = absurd (omega arith)
has-times x (m ∷ ms) h =
    ⊎_elim
    (λ (yes : (m == x) ≡ true). rw yes refl)
    (λ (no : (m == x) ≡ false). let h' : 0 < 0 + times x ms = rw no at h in rw no (has-times x ms (omega arith)))
    (cases_Bool (m == x))

times-without : (x n : ℕ) (ms : List ℕ) → has x ms ≡ true → times n (without x ms) + cond (x == n) 1 0 ≡ times n ms
unfolding without times
times-without x n [] h = cc
times-without x n (m ∷ ms) h =
    ⊎_elim
    (λ (yes : (m == x) ≡ true).
    let same : m ≡ x = eqb-true m x yes in
    rw (yes, same) (omega arith))
    (λ (no : (m == x) ≡ false).
    let h' : has x ms ≡ true = rw no at h in
    let rest = times-without x n ms h' in
    rw no (omega arith))
    (cases_Bool (m == x))

-- ---- putting it back

placed-first : (cmp : ℕ → ℕ → Ordering) (n : ℕ) (ms : List ℕ) → Above cmp n ms → placed cmp n ms ≡ n ∷ ms
unfolding placed
placed-first cmp n [] h = refl
placed-first cmp n (m ∷ ms) h = rw h.0 refl

above-at : (cmp : ℕ → ℕ → Ordering) (n x : ℕ) (ms : List ℕ) → Above cmp n ms → has x ms ≡ true → is_lt (cmp x n) ≡ false
above-at cmp n x [] h there = cc
above-at cmp n x (m ∷ ms) h there =
    ⊎_elim
    (λ (yes : (m == x) ≡ true). rw (← eqb-true m x yes) h.0)
    (λ (no : (m == x) ≡ false). above-at cmp n x ms h.1 (rw no at there))
    (cases_Bool (m == x))

-- of two numbers that differ, one comes before the other
before_of : (o o' : Ordering) → o' ≡ ordering_reverse o → is_lt o ≡ false → (o ≡ Equal → ⊥) → is_lt o' ≡ true
before_of Less o' e h ne = cc
before_of Equal o' e h ne = absurd (ne refl)
before_of Greater o' e h ne = rw e refl

placed-without : (cmp : ℕ → ℕ → Ordering) (x : ℕ) (ms : List ℕ) → IsStrict cmp → Up cmp ms → has x ms ≡ true
    → placed cmp x (without x ms) ≡ ms
unfolding placed without
placed-without cmp x [] strict up there = cc
placed-without cmp x (m ∷ ms) strict up there =
    ⊎_elim
    (λ (yes : (m == x) ≡ true). rw (yes, ← eqb-true m x yes) (placed-first cmp m ms up.0))
    (λ (no : (m == x) ≡ false).
    let there' : has x ms ≡ true = rw no at there in
    let apart : cmp x m ≡ Equal → ⊥ = λ e. (let yes : (m == x) ≡ true = eq-eqb m x (sym (strict.tie x m e)) in cc) in
    let first : is_lt (cmp m x) ≡ true = before_of (cmp x m) (cmp m x) (strict.total.antisymm m x) (above-at cmp m x ms up.0 there') apart in
    rw (no, first) (ap (λ (ns : List ℕ). m ∷ ns) (placed-without cmp x ms strict up.1 there')))
    (cases_Bool (m == x))

-- ---- the only sorted list

in_order-only : (cmp : ℕ → ℕ → Ordering) (xs ys : List ℕ) → IsStrict cmp → ((n : ℕ) → times n ys ≡ times n xs) → Up cmp ys
    → ys ≡ in_order cmp xs
unfolding in_order times
in_order-only cmp [] [] strict same up = refl
in_order-only cmp [] (y ∷ ys) strict same up =
    let one : (y == y) ≡ true = eq-eqb y y refl in
    let none : cond true 1 0 + times y ys ≡ 0 = rw one at (same y) in
    absurd (omega arith)
in_order-only cmp (x ∷ xs) ys strict same up =
    let one : (x == x) ≡ true = eq-eqb x x refl in
    let some : times x ys ≡ cond true 1 0 + times x xs = rw one at (same x) in
    let there : has x ys ≡ true = has-times x ys (omega arith) in
    let rest : without x ys ≡ in_order cmp xs =
    in_order-only cmp xs (without x ys) strict
    (λ n. let counted = times-without x n ys there in let both = same n in omega arith)
    (up-without cmp x ys up) in
    sym (placed-without cmp x ys strict up there) ∙ ap (placed cmp x) rest

-- what a sort leaves is the list in order
pub in_order-sorted : (cmp : ℕ → ℕ → Ordering) (xs ys : List ℕ) → IsStrict cmp → IsPermutation xs ys
    → IsSortedBy (λ m n. is_lt (cmp m n)) ys → ys ≡ in_order cmp xs
in_order-sorted cmp xs ys strict moved sorted =
    let order : IsStrictWeakOrder (λ m n. is_lt (cmp m n)) = ranks_by strict.total (λ (n : ℕ). n) in
    in_order-only cmp xs ys strict (λ n. times-sum_by n ys ∙ sum_by-IsPermutation (λ m. cond (m == n) 1 0) xs ys moved ∙ sym (times-sum_by n xs))
    (up_of cmp ys (λ i j below within. sorted_far (λ m n. is_lt (cmp m n)) order ys sorted i j 0 below within))

-- a sort by a closure that compares as `cmp` does
pub sorted-by : (cmp : ℕ → ℕ → Ordering) {F : Type 0} {g : Mut F (Bor ℕ × (Bor ℕ × Unit {0})) Ordering} {f : F} (ys : List ℕ)
    → IsStrict cmp → IsSortedByClosure g f ys
    → ((a : Bor ℕ × (Bor ℕ × Unit {0})) (r : Ordering) (f' : F) → Called g f a r f' → (r ≡ cmp a.0.now a.1.0.now) × (f' ≡ f))
    → IsSortedBy (λ m n. is_lt (cmp m n)) ys
sorted-by cmp {g = g} {f = f} ys strict sorted called =
    sorted (λ m n. is_lt (cmp m n)) (ranks_by strict.total (λ (n : ℕ). n))
    (always_returns_same g (λ a r. is_lt r ≡ is_lt (cmp a.0.now a.1.0.now)) f (λ a r f' k. (ap is_lt (called a r f' k).0, (called a r f' k).1)))
