-- Lists of the same elements, each once, give the same sums.
use Rattle.std.proofs.Common.{◌≡◌, ℕ, zero, suc, ◌+◌, List, [], ◌∷◌, map, Some, refl, sym, ap, subst, ◌∙◌, arith}
use Rattle.std.specs.Prelude.{slice_get}
use Rattle.std.proofs.lemmas.Option.{none-some, same_Some}
use Rattle.edited_unit_laws.proofs.ListLemmas.{In}

-- no element stands again behind itself
abbrev pub Once : {X : Type 0} → List X → Type 0
Once [] = Unit {0}
Once (x ∷ xs) = (In x xs → ⊥) × Once xs

-- .. where one element stands at one place
pub once_from : {X : Type 0} (xs : List X) → ((x : X) (j k : ℕ) → slice_get xs j ≡ Some x → slice_get xs k ≡ Some x → j ≡ k) → Once xs
once_from [] one = tt
once_from (x ∷ xs) one = (
  λ i. (let same : 0 ≡ suc i.0 = one x 0 (suc i.0) refl i.1 in omega (arith, same)),
  once_from xs (λ y j k at also. (let same : suc j ≡ suc k = one y (suc j) (suc k) at also in omega (arith, same))),
)

abbrev pub total : {X : Type 0} → (X → ℕ) → List X → ℕ
total f [] = 0
total f (x ∷ xs) = f x + total f xs

-- the list without the element at a place
abbrev without : {X : Type 0} → ℕ → List X → List X
without k [] = []
without zero (x ∷ xs) = xs
without (suc k) (x ∷ xs) = x ∷ without k xs

total_without : {X : Type 0} (f : X → ℕ) (ys : List X) (k : ℕ) (x : X) → slice_get ys k ≡ Some x → total f ys ≡ f x + total f (without k ys)
total_without f [] k x at = absurd (none-some x at)
total_without f (y ∷ ys) zero x at = ap (λ z. f z + total f ys) (same_Some y x at)
total_without f (y ∷ ys) (suc k) x at = let rest = total_without f ys k x at in omega (arith, rest)

in_without : {X : Type 0} (ys : List X) (k j : ℕ) (x z : X) → slice_get ys k ≡ Some x → slice_get ys j ≡ Some z → (z ≡ x → ⊥) → In z (without k ys)
in_without [] k j x z at there apart = absurd (none-some x at)
in_without (y ∷ ys) zero zero x z at there apart = absurd (apart (sym (same_Some y z there) ∙ same_Some y x at))
in_without (y ∷ ys) zero (suc j) x z at there apart = (j, there)
in_without (y ∷ ys) (suc k) zero x z at there apart = (0, there)
in_without (y ∷ ys) (suc k) (suc j) x z at there apart = let i = in_without ys k j x z at there apart in (suc i.0, i.1)

without_in : {X : Type 0} (ys : List X) (k j : ℕ) (z : X) → slice_get (without k ys) j ≡ Some z → In z ys
without_in [] k j z at = absurd (none-some z at)
without_in (y ∷ ys) zero j z at = (suc j, at)
without_in (y ∷ ys) (suc k) zero z at = (0, at)
without_in (y ∷ ys) (suc k) (suc j) z at = let i = without_in ys k j z at in (suc i.0, i.1)

without_once : {X : Type 0} (ys : List X) (k : ℕ) → Once ys → Once (without k ys)
without_once [] k once = tt
without_once (y ∷ ys) zero once = once.1
without_once (y ∷ ys) (suc k) once = (λ i. once.0 (without_in ys k i.0 y i.1), without_once ys k once.1)

-- what is taken away does not stand in what is left
gone : {X : Type 0} (ys : List X) (k j : ℕ) (x : X) → Once ys → slice_get ys k ≡ Some x → slice_get (without k ys) j ≡ Some x → ⊥
gone [] k j x once at there = none-some x at
gone {X = X} (y ∷ ys) zero j x once at there = once.0 (subst (λ (z : X). In z ys) (sym (same_Some y x at)) (j, there))
gone {X = X} (y ∷ ys) (suc k) zero x once at there = once.0 (subst (λ (z : X). In z ys) (sym (same_Some y x there)) (k, at))
gone (y ∷ ys) (suc k) (suc j) x once at there = gone ys k j x once.1 at there

first_or_later : {X : Type 0} (P : Type 0) (x z : X) (xs : List X) (k : ℕ) → slice_get (x ∷ xs) k ≡ Some z → (x ≡ z → P) → (In z xs → P) → P
first_or_later P x z xs zero at here later = here (same_Some x z at)
first_or_later P x z xs (suc k) at here later = later (k, at)

pub same_totals : {X : Type 0} (f : X → ℕ) (xs ys : List X) → Once xs → Once ys → ((x : X) → In x xs → In x ys) → ((y : X) → In y ys → In y xs)
    → total f xs ≡ total f ys
same_totals f [] [] once also there back = refl
same_totals f [] (y ∷ ys) once also there back = let i = back y (0, refl) in absurd (none-some y i.1)
same_totals {X = X} f (x ∷ xs) ys once also there back =
    let k = there x (0, refl) in
    let rest : total f xs ≡ total f (without k.0 ys) =
    same_totals f xs (without k.0 ys) once.1 (without_once ys k.0 also)
    (λ z i. (let j = there z (suc i.0, i.1) in
    in_without ys k.0 j.0 x z k.1 j.1 (λ same. once.0 (subst (λ (w : X). In w xs) same i))))
    (λ z i. (let l = without_in ys k.0 i.0 z i.1 in
    let m = back z l in
    first_or_later (In z xs) x z xs m.0 m.1
    (λ same. absurd (gone ys k.0 i.0 x also k.1 (subst (λ (w : X). slice_get (without k.0 ys) i.0 ≡ Some w) (sym same) i.1)))
    (λ later. later))) in
    ap (λ (n : ℕ). f x + n) rest ∙ sym (total_without f ys k.0 x k.1)

-- an element of a list that is made of another
pub mapped_at : {X Y : Type 0} (f : X → Y) (xs : List X) (k : ℕ) (y : Y) → slice_get (map f xs) k ≡ Some y → (x : X) × (y ≡ f x) × (slice_get xs k ≡ Some x)
mapped_at f [] k y e = absurd (none-some y e)
mapped_at f (x ∷ xs) zero y e = (x, sym (same_Some (f x) y e), refl)
mapped_at f (x ∷ xs) (suc k) y e = mapped_at f xs k y e
