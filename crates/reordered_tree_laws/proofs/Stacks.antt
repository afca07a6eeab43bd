-- Lists put one in front of another, in two orders: the same, where one of them at most has elements.
use Rattle.std.proofs.Common.{ℕ, zero, suc, ◌+◌, ◌-◌, ◌<◌, ◌≤◌, ◌≡◌, false, ◌==◌, List, [], ◌∷◌, ◌++◌, length, map, get_or, ◌⊎◌, inl, inr, refl, sym, ap, ◌∙◌, arith, append-nil}
use Rattle.std.specs.Prelude.{nat_lt}
use Rattle.std.specs.List.{All}
use Rattle.std.proofs.lemmas.Bool.{cases_Bool, eqb-true, eqb-false, ltb-true, ltb-false}
use Rattle.std.proofs.lemmas.List.{length-map, get_or-map, get_or_default, same_lists}
use Rattle.std.proofs.lemmas.List.Elements.{All-head, All-tail, All-nil, All-cons}
use Rattle.std.proofs.lemmas.List.Sorted.{sum_by-IsPermutation, All-permutation}
use Rattle.list_cuts.specs.Cuts.{numbers, IsOrder}
use Rattle.list_cuts.proofs.OrderLemmas.{length-numbers, get_or-numbers}
use Rattle.reordered_tree_laws.proofs.MovedPlaces.{bit, hit, hits, hits-sum, hits-before, hits-once, hits-behind}

abbrev AreNumbered : List ℕ → Type 0
AreNumbered ks = All (λ (k : ℕ). 1 ≤ k) ks

module _ {X : Type 0} where
  -- the lists with these numbers, the first one behind all others
  abbrev pub stacked : (ℕ → List X) → List ℕ → List X
  stacked h [] = []
  stacked h (k ∷ ks) = stacked h ks ++ h k

  -- of two different ones, numbered from 1, one is empty
  abbrev pub IsOneAtMost : (ℕ → List X) → Type 0
  IsOneAtMost h = (i j : ℕ) → 1 ≤ i → 1 ≤ j → (i == j) ≡ false → (h i ≡ []) ⊎ (h j ≡ [])

  abbrev AreOthersEmpty : (ℕ → List X) → ℕ → Type 0
  AreOthersEmpty h one = (k : ℕ) → 1 ≤ k → (k == one) ≡ false → h k ≡ []

  stacked_none : (h : ℕ → List X) (one : ℕ) (ks : List ℕ) → AreOthersEmpty h one → AreNumbered ks → hits one ks ≡ 0 → stacked h ks ≡ []
  stacked_none h one [] others low e = refl
  stacked_none h one (k ∷ ks) others low e = elim (cases_Bool (k == one)) [
    | inl same ↦ absurd (omega (arith, e, ap bit same))
    | inr other ↦
        ap (λ (xs : List X). xs ++ h k) (stacked_none h one ks others (All-tail (λ (x : ℕ). 1 ≤ x) k ks low) (omega (arith, e, ap bit other)))
        ∙ others k (All-head (λ (x : ℕ). 1 ≤ x) k ks low) other
  ]

  stacked_one : (h : ℕ → List X) (one : ℕ) (ks : List ℕ) → AreOthersEmpty h one → AreNumbered ks → hits one ks ≡ 1 → stacked h ks ≡ h one
  stacked_one h one [] others low e = absurd (omega (arith, e))
  stacked_one h one (k ∷ ks) others low e = elim (cases_Bool (k == one)) [
    | inl same ↦
        ap (λ (xs : List X). xs ++ h k) (stacked_none h one ks others (All-tail (λ (x : ℕ). 1 ≤ x) k ks low) (omega (arith, e, ap bit same)))
        ∙ ap h (eqb-true k one same)
    | inr other ↦
        ap (λ (xs : List X). xs ++ h k) (stacked_one h one ks others (All-tail (λ (x : ℕ). 1 ≤ x) k ks low) (omega (arith, e, ap bit other)))
        ∙ (ap (λ (xs : List X). h one ++ xs) (others k (All-head (λ (x : ℕ). 1 ≤ x) k ks low) other) ∙ append-nil (h one))
  ]

  -- all are empty, or all but one
  record OneLeft (h : ℕ → List X) : Type 0 where
    one : ℕ
    others : AreOthersEmpty h one

  past : (h : ℕ → List X) (n : ℕ) → ((k : ℕ) → suc n + 1 ≤ k → h k ≡ []) → h (suc n) ≡ [] → (k : ℕ) → n + 1 ≤ k → h k ≡ []
  past h n beyond e k low = elim (cases_Bool (k == suc n)) [
    | inl same ↦ ap h (eqb-true k (suc n) same) ∙ e
    | inr other ↦ beyond k (omega (arith, low, eqb-false k (suc n) other))
  ]

  first_empty : (h : ℕ → List X) (j k : ℕ) (x : X) (xs : List X) → h j ≡ x ∷ xs → (h k ≡ []) ⊎ (h j ≡ []) → h k ≡ []
  first_empty h j k x xs e (inl none) = none
  first_empty h j k x xs e (inr none) = absurd (some (sym e ∙ none))
    where
      some : x ∷ xs ≡ [] → ⊥
      some w = cc

  left_by : (h : ℕ → List X) (n : ℕ) (xs : List X) → h (suc n) ≡ xs → IsOneAtMost h → (h (suc n) ≡ [] → OneLeft h) → OneLeft h
  left_by h n [] e most less = less e
  left_by h n (x ∷ xs) e most less =
      record { one = suc n; others = λ k low other. first_empty h (suc n) k x xs e (most k (suc n) low (omega arith) other) }

  left_of : (h : ℕ → List X) (n : ℕ) → IsOneAtMost h → ((k : ℕ) → n + 1 ≤ k → h k ≡ []) → OneLeft h
  left_of h zero most beyond = record { one = 0; others = λ k low other. beyond k (omega (arith, low)) }
  left_of h (suc n) most beyond = left_by h n (h (suc n)) refl most (λ e. left_of h n most (past h n beyond e))

  -- Two orders of the same numbers give the same.
  pub stacked_alike : (h : ℕ → List X) (n : ℕ) (js ks : List ℕ) → IsOneAtMost h → ((k : ℕ) → n + 1 ≤ k → h k ≡ []) → AreNumbered js → AreNumbered ks
      → ((x : ℕ) → hits x js ≡ hits x ks) → ((x : ℕ) → hits x ks ≤ 1) → stacked h js ≡ stacked h ks
  stacked_alike h n js ks most beyond low low' same once =
      let l : OneLeft h = left_of h n most beyond in
      by l.one l.others (hits l.one ks) refl (once l.one) (same l.one)
    where
      by : (one : ℕ) → AreOthersEmpty h one → (c : ℕ) → hits one ks ≡ c → c ≤ 1 → hits one js ≡ c → stacked h js ≡ stacked h ks
      by one others zero e few f = stacked_none h one js others low f ∙ sym (stacked_none h one ks others low' e)
      by one others (suc zero) e few f = stacked_one h one js others low f ∙ sym (stacked_one h one ks others low' e)
      by one others (suc (suc c)) e few f = absurd (omega (arith, few))

-- ---- Orders

pub numbers_low : (n from : ℕ) → 1 ≤ from → AreNumbered (numbers from n)
unfolding numbers
numbers_low zero from low = All-nil (λ (x : ℕ). 1 ≤ x)
numbers_low (suc n) from low = All-cons (λ (x : ℕ). 1 ≤ x) from (numbers (from + 1) n) low (numbers_low n (from + 1) (omega arith))

pub order_low : (n : ℕ) (order : List ℕ) → IsOrder n order → AreNumbered order
order_low n order is = All-permutation (λ (x : ℕ). 1 ≤ x) (numbers 1 n) order is (numbers_low n 1 (omega arith))

pub order_hits : (n : ℕ) (order : List ℕ) (x : ℕ) → IsOrder n order → hits x order ≡ hits x (numbers 1 n)
order_hits n order x is = hits-sum x order ∙ (sum_by-IsPermutation (hit x) (numbers 1 n) order is ∙ sym (hits-sum x (numbers 1 n)))

pub numbers_once : (n x : ℕ) → hits x (numbers 1 n) ≤ 1
numbers_once n x = elim (cases_Bool (nat_lt x 1)) [
  | inl a ↦ omega (arith, hits-before n 1 x (ltb-true x 1 a))
  | inr a ↦ elim (cases_Bool (nat_lt x (1 + n))) [
    | inl b ↦ omega (arith, hits-once n 1 x (ltb-false x 1 a) (ltb-true x (1 + n) b))
    | inr b ↦ omega (arith, hits-behind n 1 x (ltb-false x (1 + n) b))
  ]
]

pub in_order : {X : Type 0} (h : ℕ → List X) (n : ℕ) (order : List ℕ) → IsOrder n order → IsOneAtMost h → ((k : ℕ) → n + 1 ≤ k → h k ≡ [])
    → stacked h order ≡ stacked h (numbers 1 n)
in_order h n order is most beyond =
    stacked_alike h n order (numbers 1 n) most beyond (order_low n order is) (numbers_low n 1 (omega arith)) (λ x. order_hits n order x is) (numbers_once n)

-- the elements by their numbers
pub numbered_all : {X : Type 0} (d : X) (xs : List X) → map (λ (k : ℕ). get_or xs (k - 1) d) (numbers 1 (length xs)) ≡ xs
numbered_all d xs =
    let f = λ (k : ℕ). get_or xs (k - 1) d in
    let len : length (map f (numbers 1 (length xs))) ≡ length xs = length-map (numbers 1 (length xs)) f ∙ length-numbers (length xs) 1 in
    same_lists (map f (numbers 1 (length xs))) xs len (λ k e lt. at k e (rw len at lt))
  where
    at : (k : ℕ) (e : _) → k < length xs → get_or (map (λ (j : ℕ). get_or xs (j - 1) d) (numbers 1 (length xs))) k e ≡ get_or xs k e
    at k e lt =
        let f = λ (j : ℕ). get_or xs (j - 1) d in
        let few : k < length (numbers 1 (length xs)) = rw (length-numbers (length xs) 1) lt in
        let many : k < length (map f (numbers 1 (length xs))) = rw (length-map (numbers 1 (length xs)) f) few in
        let back : get_or (numbers 1 (length xs)) k 0 - 1 ≡ k = rw (get_or-numbers (length xs) 1 k 0 lt) (omega arith) in
        get_or_default (map f (numbers 1 (length xs))) k e d many
        ∙ (get_or-map f (numbers 1 (length xs)) k 0 d few
        ∙ (ap (λ (j : ℕ). get_or xs j d) back ∙ get_or_default xs k d e lt))
