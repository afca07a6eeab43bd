-- Sums over lists of numbers, and how many of a list are below a number.
use Rattle.std.proofs.Common.{◌≡◌, ℕ, ◌+◌, ◌*◌, ◌<◌, ◌≤◌, Bool, cond, ltb, List, [], ◌∷◌, suc, length, map, refl, ap, sym, ◌∙◌, inl, inr, arith, subst}
use Rattle.std.specs.List.{count_by}
use Rattle.std.proofs.Math.Nat.{add-mul}
use Rattle.std.proofs.lemmas.List.Sums.{sum_by-cons}
use Rattle.std.proofs.lemmas.Bool.{cases_lt, cases_eq, cond-true, cond-false, lt-ltb, le-ltb}
use Rattle.class_labels.specs.Table.{In, Distinct}

abbrev pub tally : (ℕ → ℕ) → List ℕ → ℕ
tally f [] = 0
tally f (x ∷ xs) = f x + tally f xs

pub tally_even : (f g h k : ℕ → ℕ) (xs : List ℕ) → ((x : ℕ) → In x xs → f x + g x ≡ h x + k x) → tally f xs + tally g xs ≡ tally h xs + tally k xs
tally_even f g h k [] even = refl
tally_even f g h k (x ∷ xs) even =
    let here = even x (inl refl) in
    let rest = tally_even f g h k xs (λ y i. even y (inr i)) in
    omega arith

pub tally_same : (f g : ℕ → ℕ) (xs : List ℕ) → ((x : ℕ) → In x xs → f x ≡ g x) → tally f xs ≡ tally g xs
tally_same f g [] same = refl
tally_same f g (x ∷ xs) same =
    let here = same x (inl refl) in
    let rest = tally_same f g xs (λ y i. same y (inr i)) in
    omega arith

pub tally_none : (f : ℕ → ℕ) (xs : List ℕ) → ((x : ℕ) → In x xs → f x ≡ 0) → tally f xs ≡ 0
tally_none f [] none = refl
tally_none f (x ∷ xs) none =
    let here = none x (inl refl) in
    let rest = tally_none f xs (λ y i. none y (inr i)) in
    omega arith

pub tally_each : (f : ℕ → ℕ) (xs : List ℕ) → ((x : ℕ) → In x xs → f x ≡ 1) → tally f xs ≡ length xs
tally_each f [] each = refl
tally_each f (x ∷ xs) each =
    let here = each x (inl refl) in
    let rest = tally_each f xs (λ y i. each y (inr i)) in
    omega arith

-- a count, as a sum
pub count_tally : {A : Type 0} (p : A → Bool) (f : ℕ → A) (xs : List ℕ) → count_by p (map f xs) ≡ tally (λ x. cond (p (f x)) 1 0) xs
count_tally p f [] = refl
count_tally p f (x ∷ xs) = sum_by-cons (λ y. cond (p y) 1 0) (f x) (map f xs) ∙ ap (λ v. cond (p (f x)) 1 0 + v) (count_tally p f xs)

-- 1 where w is below i
abbrev pub below : ℕ → ℕ → ℕ
below i w = cond (ltb w i) 1 0

pub below_yes : (i w : ℕ) → w < i → below i w ≡ 1
below_yes i w less = cond-true (ltb w i) 1 0 (lt-ltb w i less)

pub below_no : (i w : ℕ) → i ≤ w → below i w ≡ 0
below_no i w most = cond-false (ltb w i) 1 0 (le-ltb w i most)

-- i itself
pub below_skip : (i : ℕ) (xs : List ℕ) → (In i xs → ⊥) → tally (below (suc i)) xs ≡ tally (below i) xs
below_skip i xs apart = tally_same (below (suc i)) (below i) xs (λ x k. elim (cases_lt x i) [
  | inl less ↦ below_yes (suc i) x (omega arith) ∙ sym (below_yes i x less)
  | inr most ↦ elim (cases_eq x i) [
    | inl e ↦ let P : ℕ → Type 0 = λ v. In v xs in absurd (apart (subst P e k))
    | inr ne ↦ below_no (suc i) x (omega arith) ∙ sym (below_no i x most)
  ]
])

pub below_next : (i : ℕ) (xs : List ℕ) → Distinct xs → In i xs → tally (below (suc i)) xs ≡ suc (tally (below i) xs)
below_next i [] d k = absurd k
below_next i (x ∷ xs) d k = elim (cases_eq i x) [
  | inl e ↦
      let P : ℕ → Type 0 = λ v. In v xs → ⊥ in
      let rest = below_skip i xs (subst P (sym e) d.0) in
      let now = below_yes (suc i) x (omega arith) in
      let was = below_no i x (omega arith) in
      omega arith
  | inr ne ↦ elim k [
    | inl e ↦ absurd (ne e)
    | inr j ↦
        let rest = below_next i xs d.1 j in
        let same : below (suc i) x ≡ below i x = elim (cases_lt x i) [
          | inl less ↦ below_yes (suc i) x (omega arith) ∙ sym (below_yes i x less)
          | inr most ↦ below_no (suc i) x (omega arith) ∙ sym (below_no i x most)
        ] in
        omega arith
  ]
]

pub mul_next : (b l : ℕ) → suc b * l ≡ b * l + l
mul_next b l = let one : suc b ≡ b + 1 = omega arith in let e = add-mul b 1 l in let f : 1 * l ≡ l = omega arith in ap (λ v. v * l) one ∙ e ∙ (let g : b * l + 1 * l ≡ b * l + l = omega arith in g)

-- equal sums, times l
pub mul_even : (a b c d l : ℕ) → a + b ≡ c + d → a * l + b * l ≡ c * l + d * l
mul_even a b c d l e = sym (add-mul a b l) ∙ ap (λ v. v * l) e ∙ add-mul c d l
