-- Orders are permutations of the numbers from one on.
use Rattle.std.proofs.Common.{ℕ, zero, suc, ◌+◌, ◌-◌, ◌≡◌, ◌<◌, ◌≤◌, true, List, [], ◌∷◌, length, get_or, refl, sym, ap, ◌∙◌, inl, inr, arith}
use Rattle.std.specs.Prelude.{◌==◌, ◌||◌, IsPermutation, remove}
use Rattle.std.specs.List.{list_all}
use Rattle.std.proofs.lemmas.Bool.{cases_Bool, and_parts, eqb-true, ne_eqb}
use Rattle.std.proofs.lemmas.List.Sorted.{IsPermutation-refl, IsPermutation-sym, IsPermutation-trans, IsPermutation-cons, IsPermutation-remove, IsPermutation-map, list_any-IsPermutation, length_permutation, All-permutation}
use Rattle.std.proofs.lemmas.List.{same_lists, get_or-map, get_or_default, length-map}
use Rattle.std.proofs.lemmas.List.Elements.{All-get_or, All-from_get_or}
use Rattle.list_cuts.specs.Cuts.{numbers, IsOrder, item_at, picked}
use Rattle.list_cuts.specs.Orders.{has_number, is_order}

-- where a number stands that is among some
place_of : (k : ℕ) (order : List ℕ) → has_number order k ≡ true → (i : ℕ) × (i < length order) × (k ≡ get_or order i k)
place_of k [] h = absurd cc
place_of k (o ∷ order) h = elim (cases_Bool (o == k)) [
  | inl here ↦ (0, omega arith, sym (eqb-true o k here))
  | inr other ↦
      let rest = place_of k order (rw other at h) in
      (suc rest.0, omega (arith, rest.1), rest.2)
]

-- each of so many numbers from one on is among some
abbrev HasEach : List ℕ → ℕ → ℕ → Type 0
HasEach order from n = list_all (has_number order) (numbers from n) ≡ true

-- the number is not among those behind it
each_without : (order rest : List ℕ) (x from n : ℕ) → ((k : ℕ) → x < k → has_number order k ≡ has_number rest k) → x < from
    → HasEach order from n → HasEach rest from n
unfolding numbers
each_without order rest x from zero alike above h = refl
each_without order rest x from (suc n) alike above h =
    let p = and_parts (has_number order from) (list_all (has_number order) (numbers (from + 1) n)) h in
    let here : has_number rest from ≡ true = sym (alike from above) ∙ p.0 in
    rw here (each_without order rest x (from + 1) n alike (omega (arith, above)) p.1)

-- so many numbers that have each from one on are these in some order
pub permutes : (n from : ℕ) (order : List ℕ) → length order ≡ n → HasEach order from n → IsPermutation (numbers from n) order
unfolding numbers
permutes zero from [] len h = IsPermutation-refl []
permutes zero from (o ∷ order) len h = absurd (omega (arith, len))
permutes (suc n) from order len h =
    let p = and_parts (has_number order from) (list_all (has_number order) (numbers (from + 1) n)) h in
    let at = place_of from order p.0 in
    let rest = remove order at.0 in
    let out : IsPermutation order (from ∷ rest) = IsPermutation-remove order at.0 from at.1 at.2 in
    let many : length (from ∷ rest) ≡ length order = length_permutation order (from ∷ rest) out in
    let alike : (k : ℕ) → from < k → has_number order k ≡ has_number rest k =
    λ k above. list_any-IsPermutation (λ o. o == k) order (from ∷ rest) out
    ∙ ap (λ b. b || has_number rest k) (ne_eqb from k (λ e. omega (arith, above, e))) in
    let inner = permutes n (from + 1) rest (omega (arith, many, len)) (each_without order rest from (from + 1) n alike (omega arith) p.1) in
    IsPermutation-trans (from ∷ numbers (from + 1) n) (from ∷ rest) order
    (IsPermutation-cons from (numbers (from + 1) n) rest inner)
    (IsPermutation-sym order (from ∷ rest) out)

pub orders_permute : (n : ℕ) (order : List ℕ) → is_order n order ≡ true → IsOrder n order
orders_permute n order h =
    let p = and_parts (length order == n) (list_all (has_number order) (numbers 1 n)) h in
    permutes n 1 order (eqb-true (length order) n p.0) p.1

-- ---- the items that an order picks

pub length-numbers : (n from : ℕ) → length (numbers from n) ≡ n
unfolding numbers
length-numbers zero from = refl
length-numbers (suc n) from = ap (λ (k : ℕ). suc k) (length-numbers n (from + 1))

pub get_or-numbers : (n from k d : ℕ) → k < n → get_or (numbers from n) k d ≡ from + k
unfolding numbers
get_or-numbers zero from k d lt = absurd (omega (arith, lt))
get_or-numbers (suc n) from zero d lt = omega arith
get_or-numbers (suc n) from (suc k) d lt = let rest = get_or-numbers n (from + 1) k d (omega (arith, lt)) in omega (arith, rest)

pub length-picked : {X : Type 0} (order : List ℕ) (items : List (List X)) → length (picked order items) ≡ length order
length-picked order items = length-map order (item_at items)

pub picked_at : {X : Type 0} (order : List ℕ) (items : List (List X)) (k : ℕ) → k < length order
    → get_or (picked order items) k [] ≡ get_or items (get_or order k 0 - 1) []
picked_at order items k lt = get_or-map (item_at items) order k 0 [] lt

numbered_at : {X : Type 0} (items : List (List X)) (k : ℕ) (d : List X) → k < length items
    → get_or (picked (numbers 1 (length items)) items) k d ≡ get_or items k d
numbered_at items k d lt =
    let few : k < length (numbers 1 (length items)) = rw (length-numbers (length items) 1) lt in
    let many : k < length (picked (numbers 1 (length items)) items) = rw (length-picked (numbers 1 (length items)) items) few in
    let back : get_or (numbers 1 (length items)) k 0 - 1 ≡ k = rw (get_or-numbers (length items) 1 k 0 lt) (omega arith) in
    get_or_default (picked (numbers 1 (length items)) items) k d [] many
    ∙ picked_at (numbers 1 (length items)) items k few
    ∙ ap (λ (j : ℕ). get_or items j []) back
    ∙ get_or_default items k [] d lt

-- the items by their numbers are the items
pub picked-numbers : {X : Type 0} (items : List (List X)) → picked (numbers 1 (length items)) items ≡ items
picked-numbers items =
    let len : length (picked (numbers 1 (length items)) items) ≡ length items = length-picked (numbers 1 (length items)) items ∙ length-numbers (length items) 1 in
    same_lists (picked (numbers 1 (length items)) items) items len (λ k d lt. numbered_at items k d (rw len at lt))

-- they change places
pub picked_permutes : {X : Type 0} (order : List ℕ) (items : List (List X)) → IsOrder (length items) order → IsPermutation items (picked order items)
picked_permutes order items is =
    let moved = IsPermutation-map (item_at items) (numbers 1 (length items)) order is in
    rw (picked-numbers items) at moved

-- a number of an order is one of them
pub orders_within : (n k d : ℕ) (order : List ℕ) → IsOrder n order → k < length order → (0 < get_or order k d) × (get_or order k d ≤ n)
orders_within n k d order is lt =
    All-get_or (λ x. (0 < x) × (x ≤ n)) order k d lt
    (All-permutation (λ x. (0 < x) × (x ≤ n)) (numbers 1 n) order is
    (All-from_get_or (λ x. (0 < x) × (x ≤ n)) (numbers 1 n) d (λ i below. within i (rw (length-numbers n 1) at below))))
  where
    within : (i : ℕ) → i < n → (0 < get_or (numbers 1 n) i d) × (get_or (numbers 1 n) i d ≤ n)
    within i below = rw (get_or-numbers n 1 i d below) (omega (arith, below), omega (arith, below))
