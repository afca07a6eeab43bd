-- What is given to each place of a list is given to the items that come to stand there.
use Rattle.std.proofs.Common.{◌≡◌, ℕ, zero, suc, ◌+◌, ◌-◌, ◌<◌, ◌≤◌, Bool, true, false, not, ◌==◌, ◌&&◌, cond, List, [], ◌∷◌, length, map, get_or, inl, inr, refl, sym, ap, ◌∙◌, arith}
use Rattle.std.specs.Prelude.{sum_by, IsPermutation}
use Rattle.std.specs.List.{All}
use Rattle.std.proofs.lemmas.Bool.{cases_Bool, and_parts, eqb-true, eq-eqb}
use Rattle.std.proofs.lemmas.List.{get_or-map, length-map}
use Rattle.std.proofs.lemmas.List.Sums.{sum_by-cons}
use Rattle.std.proofs.lemmas.List.Folds.{list_any_at}
use Rattle.std.proofs.lemmas.List.Elements.{All-from_get_or}
use Rattle.std.proofs.lemmas.List.Sorted.{sum_by-IsPermutation, All-permutation}
use Rattle.cs_base.proofs.BoolLemmas.{not_true as not-true}
use Rattle.list_cuts.specs.Cuts.{numbers, IsOrder, picked}
use Rattle.list_cuts.specs.Orders.{has_number}
use Rattle.list_cuts.proofs.OrderLemmas.{length-numbers, get_or-numbers}
use Rattle.arranged_text_laws.specs.Labels.{head_with}

-- ---- labels for lists, one for each

abbrev pub labelled : {Y S : Type 0} → (S → Y → Y) → List S → List (List Y) → List (List Y)
labelled label [] xss = xss
labelled label (s ∷ ss) [] = []
labelled label (s ∷ ss) (xs ∷ xss) = head_with (label s) xs ∷ labelled label ss xss

labelled_at : {Y S : Type 0} (label : S → Y → Y) (ss : List S) (xss : List (List Y)) (k : ℕ) (d : S) → k < length ss → k < length xss
    → get_or (labelled label ss xss) k [] ≡ head_with (label (get_or ss k d)) (get_or xss k [])
labelled_at label [] xss k d few many = absurd (omega (arith, few))
labelled_at label (s ∷ ss) [] k d few many = absurd (omega (arith, many))
labelled_at label (s ∷ ss) (xs ∷ xss) zero d few many = refl
labelled_at label (s ∷ ss) (xs ∷ xss) (suc k) d few many = labelled_at label ss xss k d (omega (arith, few)) (omega (arith, many))

-- ---- orders have each number once

abbrev one_if : Bool → ℕ
one_if true = 1
one_if false = 0

abbrev times : ℕ → List ℕ → ℕ
times k xs = sum_by (λ o. one_if (o == k)) xs

times-cons : (k x : ℕ) (xs : List ℕ) → times k (x ∷ xs) ≡ one_if (x == k) + times k xs
times-cons k x xs = sum_by-cons (λ o. one_if (o == k)) x xs

abbrev pub are_apart : List ℕ → Bool
are_apart [] = true
are_apart (k ∷ ks) = not (has_number ks k) && are_apart ks

times-none : (k : ℕ) (xs : List ℕ) → times k xs ≡ 0 → has_number xs k ≡ false
times-none k [] h = refl
times-none k (x ∷ xs) h =
    elim (cases_Bool (x == k)) [
      | inl same ↦
          let one : one_if (x == k) ≡ 1 = rw same refl in
          let all = times-cons k x xs in
          absurd (omega (arith, all, one, h))
      | inr other ↦
          let none : one_if (x == k) ≡ 0 = rw other refl in
          let all = times-cons k x xs in
          rw other (times-none k xs (omega (arith, all, none, h)))
    ]

apart : (xs : List ℕ) → ((k : ℕ) → times k xs ≤ 1) → are_apart xs ≡ true
apart [] h = refl
apart (x ∷ xs) h =
    let one : one_if (x == x) ≡ 1 = ap one_if (eq-eqb x x refl) in
    let all = times-cons x x xs in
    let most = h x in
    let none : has_number xs x ≡ false = times-none x xs (omega (arith, all, one, most)) in
    rw none (apart xs (λ k. let each = times-cons k x xs in let few = h k in omega (arith, each, few)))

numbers_before : (k from n : ℕ) → k < from → times k (numbers from n) ≡ 0
unfolding numbers
numbers_before k from zero lt = refl
numbers_before k from (suc n) lt =
    elim (cases_Bool (from == k)) [
      | inl same ↦ let e = eqb-true from k same in absurd (omega (arith, e, lt))
      | inr other ↦
          let none : one_if (from == k) ≡ 0 = rw other refl in
          let all = times-cons k from (numbers (from + 1) n) in
          let rest = numbers_before k (from + 1) n (omega (arith, lt)) in
          omega (arith, all, none, rest)
    ]

numbers_once : (k from n : ℕ) → times k (numbers from n) ≤ 1
unfolding numbers
numbers_once k from zero = omega arith
numbers_once k from (suc n) =
    elim (cases_Bool (from == k)) [
      | inl same ↦
          let e = eqb-true from k same in
          let one : one_if (from == k) ≡ 1 = rw same refl in
          let all = times-cons k from (numbers (from + 1) n) in
          let rest = numbers_before k (from + 1) n (omega (arith, e)) in
          omega (arith, all, one, rest)
      | inr other ↦
          let none : one_if (from == k) ≡ 0 = rw other refl in
          let all = times-cons k from (numbers (from + 1) n) in
          let rest = numbers_once k (from + 1) n in
          omega (arith, all, none, rest)
    ]

-- so does what has the same numbers in another order
pub apart_permuted : (from n : ℕ) (ks : List ℕ) → IsPermutation (numbers from n) ks → are_apart ks ≡ true
apart_permuted from n ks is =
    apart ks (λ k. let same = sum_by-IsPermutation (λ o. one_if (o == k)) (numbers from n) ks is in let once = numbers_once k from n in omega (arith, same, once))

-- where each number stands once, it stands at one place
pub apart_at : (ks : List ℕ) (j k d : ℕ) → are_apart ks ≡ true → j < k → k < length ks → (get_or ks j d == get_or ks k d) ≡ false
apart_at [] j k d once below lt = absurd (omega (arith, lt))
apart_at (x ∷ ks) j zero d once below lt = absurd (omega (arith, below))
apart_at (x ∷ ks) zero (suc k) d once below lt =
    let parts = and_parts (not (has_number ks x)) (are_apart ks) once in
    elim (cases_Bool (x == get_or ks k d)) [
      | inl same ↦
          let e : x ≡ get_or ks k d = eqb-true x (get_or ks k d) same in
          let there : has_number ks x ≡ true = list_any_at (λ o. o == x) ks k d (omega (arith, lt)) (eq-eqb (get_or ks k d) x (sym e)) in
          let none : not true ≡ true = ap not (sym there) ∙ parts.0 in
          absurd cc
      | inr other ↦ other
    ]
apart_at (x ∷ ks) (suc j) (suc k) d once below lt =
    let parts = and_parts (not (has_number ks x)) (are_apart ks) once in
    apart_at ks j k d parts.1 (omega (arith, below)) (omega (arith, lt))

order_apart : (n : ℕ) (order : List ℕ) → IsOrder n order → are_apart order ≡ true
order_apart n order is =
    apart order (λ k. let same = sum_by-IsPermutation (λ o. one_if (o == k)) (numbers 1 n) order is in let once = numbers_once k 1 n in omega (arith, same, once))

abbrev InRange : ℕ → ℕ → Type 0
InRange n k = (0 < k) × (k ≤ n)

pub order_within : (n : ℕ) (order : List ℕ) → IsOrder n order → All (InRange n) order
order_within n order is =
    All-permutation (InRange n) (numbers 1 n) order is
    (All-from_get_or (InRange n) (numbers 1 n) 0 (λ i below. within i (rw (length-numbers n 1) at below)))
  where
    within : (i : ℕ) → i < n → (0 < get_or (numbers 1 n) i 0) × (get_or (numbers 1 n) i 0 ≤ n)
    within i below = rw (get_or-numbers n 1 i 0 below) (omega (arith, below), omega (arith, below))

-- ---- what is given to places

-- what is given to the place at which a number stands
abbrev given : {S : Type 0} → S → ℕ → List ℕ → List S → S
given d j [] ss = d
given d j (k ∷ ks) [] = d
given d j (k ∷ ks) (s ∷ ss) = cond (k == j) s (given d j ks ss)

-- labels of places are labels of the items that come to stand there
places_by_items : {Y S : Type 0} (label : S → Y → Y) (d : S) (us : List S) (xss : List (List Y)) (n : ℕ) (ks : List ℕ) (ss : List S) → length us ≡ n
    → length xss ≡ n → length ks ≤ length ss → All (InRange n) ks → are_apart ks ≡ true
    → ((k : ℕ) → has_number ks k ≡ true → get_or us (k - 1) d ≡ given d k ks ss)
    → labelled label ss (picked ks xss) ≡ picked ks (labelled label us xss)
places_by_items label d us xss n [] [] lu lx few within once same = refl
places_by_items label d us xss n [] (s ∷ ss) lu lx few within once same = refl
places_by_items label d us xss n (k ∷ ks) [] lu lx few within once same = absurd (omega (arith, few))
places_by_items label d us xss n (k ∷ ks) (s ∷ ss) lu lx few within once same =
    let parts = and_parts (not (has_number ks k)) (are_apart ks) once in
    let none : has_number ks k ≡ false = not-true (has_number ks k) parts.0 in
    let self : (k == k) ≡ true = eq-eqb k k refl in
    let first : (0 < k) × (k ≤ n) = within 0 k (omega arith) in
    let here : get_or us (k - 1) d ≡ s = same k (rw self refl) ∙ rw self refl in
    let at : get_or (labelled label us xss) (k - 1) [] ≡ head_with (label (get_or us (k - 1) d)) (get_or xss (k - 1) []) =
    labelled_at label us xss (k - 1) d (omega (arith, first, lu)) (omega (arith, first, lx)) in
    let rest = places_by_items label d us xss n ks ss lu lx (omega (arith, few)) (λ i e lt. within (suc i) e (omega (arith, lt))) parts.1
    (λ j is. let other : (k == j) ≡ false = differ k j ks none is in
    let both : has_number (k ∷ ks) j ≡ true = rw other is in
    same j both ∙ rw other refl) in
    ap (λ (ys : List _). ys ∷ labelled label ss (picked ks xss)) (ap (λ u. head_with (label u) (get_or xss (k - 1) [])) (sym here) ∙ sym at)
    ∙ ap (λ (yss : List (List _)). get_or (labelled label us xss) (k - 1) [] ∷ yss) rest
  where
    differ : (k j : ℕ) (ks : List ℕ) → has_number ks k ≡ false → has_number ks j ≡ true → (k == j) ≡ false
    differ k j ks none is =
        elim (cases_Bool (k == j)) [
          | inl same ↦
              let e : k ≡ j = eqb-true k j same in
              let nost : false ≡ true = sym none ∙ ap (has_number ks) e ∙ is in
              absurd cc
          | inr other ↦ other
        ]

-- Labels for the items, where places have these: the same lists are labelled alike.
pub record Labels {Y S : Type 0} (label : S → Y → Y) (n : ℕ) (order : List ℕ) (ss : List S) : Type 0 where
  pub own : List S
  pub same : (xss : List (List Y)) → length xss ≡ n → labelled label ss (picked order xss) ≡ picked order (labelled label own xss)

in_range : (n k : ℕ) (ks : List ℕ) → All (InRange n) ks → has_number ks k ≡ true → (0 < k) × (k ≤ n)
in_range n k [] within has = absurd cc
in_range n k (j ∷ ks) within has =
    elim (cases_Bool (j == k)) [
      | inl same ↦
          let e = eqb-true j k same in
          let first : (0 < j) × (j ≤ n) = within 0 j (omega arith) in
          (omega (arith, e, first), omega (arith, e, first))
      | inr other ↦ in_range n k ks (λ i e lt. within (suc i) e (omega (arith, lt))) (rw other at has)
    ]

pub labels_of_items : {Y S : Type 0} (label : S → Y → Y) (d : S) (n : ℕ) (order : List ℕ) (ss : List S) → IsOrder n order → length order ≤ length ss
    → Labels label n order ss
labels_of_items label d n order ss is few =
    let own = map (λ k. given d k order ss) (numbers 1 n) in
    let many : length own ≡ n = length-map (numbers 1 n) (λ k. given d k order ss) ∙ length-numbers n 1 in
    let within = order_within n order is in
    record {
      own = own;
      same = λ xss lx. places_by_items label d own xss n order ss many lx few within (order_apart n order is)
          (λ k has. let range = in_range n k order within has in
          let below : k - 1 < length (numbers 1 n) = rw (length-numbers n 1) (omega (arith, range)) in
          let number : get_or (numbers 1 n) (k - 1) 0 ≡ k = get_or-numbers n 1 (k - 1) 0 (omega (arith, range)) ∙ omega (arith, range) in
          get_or-map (λ k. given d k order ss) (numbers 1 n) (k - 1) 0 d below ∙ ap (λ j. given d j order ss) number);
    }
