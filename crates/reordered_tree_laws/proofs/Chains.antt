-- The first answer in a list of lists, of which at most one has an answer, whatever their order.
use Rattle.std.proofs.Common.{ℕ, zero, suc, ◌+◌, ◌≤◌, ◌≡◌, Bool, true, false, List, [], ◌∷◌, ◌++◌, map, Option, None, Some, refl, sym, ap, ◌∙◌, arith}
use Rattle.std.specs.Prelude.{IsPermutation}
use Rattle.std.specs.List.{sum_by}
use Rattle.std.specs.Option.{option_or}
use Rattle.std.proofs.lemmas.List.Sums.{sum_by-cons}
use Rattle.std.proofs.lemmas.List.Sorted.{sum_by-IsPermutation}
use Rattle.tree_laws.proofs.Outline.{Entry}

-- what each item has added, the latest in front
abbrev pub heap : List (List Entry) → List Entry
heap [] = []
heap (b ∷ bs) = heap bs ++ b

-- the last answer
abbrev pub chain : List (Option Bool) → Option Bool
chain [] = None
chain (o ∷ os) = option_or (chain os) o

-- ---- Counts

abbrev pub yes : Option Bool → ℕ
yes None = 0
yes (Some true) = 1
yes (Some false) = 0

abbrev pub no : Option Bool → ℕ
no None = 0
no (Some true) = 0
no (Some false) = 1

abbrev pub some : Option Bool → ℕ
some None = 0
some (Some b) = 1

abbrev pub count : {X : Type 0} → (X → ℕ) → List X → ℕ
count f [] = 0
count f (x ∷ xs) = f x + count f xs

count-sum : {X : Type 0} (f : X → ℕ) (xs : List X) → count f xs ≡ sum_by f xs
count-sum f [] = refl
count-sum f (x ∷ xs) = ap (λ (n : ℕ). f x + n) (count-sum f xs) ∙ sym (sum_by-cons f x xs)

pub count_permuted : {X : Type 0} (f : X → ℕ) (xs ys : List X) → IsPermutation xs ys → count f ys ≡ count f xs
count_permuted f xs ys p = count-sum f ys ∙ (sum_by-IsPermutation f xs ys p ∙ sym (count-sum f xs))

parts : (o : Option Bool) → yes o + no o ≡ some o
parts None = refl
parts (Some true) = refl
parts (Some false) = refl

module _ {X : Type 0} (g : X → Option Bool) where
  count_parts : (xs : List X) → count (λ x. yes (g x)) xs + count (λ x. no (g x)) xs ≡ count (λ x. some (g x)) xs
  count_parts [] = refl
  count_parts (x ∷ xs) = omega (arith, parts (g x), count_parts xs)

  -- the one answer
  abbrev decided : ℕ → ℕ → Option Bool
  decided (suc n) k = Some true
  decided zero (suc k) = Some false
  decided zero zero = None

  nothing : (y n : ℕ) → y + n ≤ 0 → decided y n ≡ None
  nothing zero zero e = refl
  nothing (suc y) n e = absurd (omega (arith, e))
  nothing zero (suc n) e = absurd (omega (arith, e))

  decided_both : (y n y' n' : ℕ) → y ≡ y' → n ≡ n' → decided y n ≡ decided y' n'
  decided_both y n y' n' e f = ap (λ (k : ℕ). decided k n) e ∙ ap (λ (k : ℕ). decided y' k) f

  decided_yes : (y n : ℕ) → 1 ≤ y → Some true ≡ decided y n
  decided_yes zero n e = absurd (omega (arith, e))
  decided_yes (suc y) n e = refl

  decided_no : (y n : ℕ) → y ≡ 0 → 1 ≤ n → Some false ≡ decided y n
  decided_no zero zero e f = absurd (omega (arith, f))
  decided_no zero (suc n) e f = refl
  decided_no (suc y) n e f = absurd (omega (arith, e))

  decided_step : (a c : Option Bool) (y n : ℕ) → yes a + y + (no a + n) ≤ 1 → c ≡ decided y n → option_or c a ≡ decided (yes a + y) (no a + n)
  decided_step None None y n e h = h ∙ decided_both y n (0 + y) (0 + n) (omega arith) (omega arith)
  decided_step None (Some b) y n e h = h ∙ decided_both y n (0 + y) (0 + n) (omega arith) (omega arith)
  decided_step (Some true) c y n e h = ap (λ o. option_or o (Some true)) (h ∙ nothing y n (omega (arith, e))) ∙ decided_yes (1 + y) (0 + n) (omega arith)
  decided_step (Some false) c y n e h =
      ap (λ o. option_or o (Some false)) (h ∙ nothing y n (omega (arith, e))) ∙ decided_no (0 + y) (1 + n) (omega (arith, e)) (omega arith)

  chain_decided : (xs : List X) → count (λ x. yes (g x)) xs + count (λ x. no (g x)) xs ≤ 1
      → chain (map g xs) ≡ decided (count (λ x. yes (g x)) xs) (count (λ x. no (g x)) xs)
  chain_decided [] e = refl
  chain_decided (x ∷ xs) e =
      decided_step (g x) (chain (map g xs)) (count (λ x. yes (g x)) xs) (count (λ x. no (g x)) xs) e (chain_decided xs (omega (arith, e)))

  pub chain_permuted : (xs ys : List X) → IsPermutation xs ys → count (λ x. some (g x)) xs ≤ 1 → chain (map g ys) ≡ chain (map g xs)
  chain_permuted xs ys p e =
      let y = count_permuted (λ x. yes (g x)) xs ys p in
      let n = count_permuted (λ x. no (g x)) xs ys p in
      chain_decided ys (omega (arith, y, n, count_parts xs, e))
      ∙ (ap (λ (k : ℕ). decided k (count (λ x. no (g x)) ys)) y
      ∙ (ap (λ (k : ℕ). decided (count (λ x. yes (g x)) xs) k) n ∙ sym (chain_decided xs (omega (arith, count_parts xs, e)))))
