-- What stands in lists, and lists that are empty.
use Rattle.std.proofs.Common.{◌≡◌, ℕ, zero, suc, Bool, true, List, [], ◌∷◌, ◌++◌, map, Some, inl, inr, refl, sym, ap, ◌∙◌}
use Rattle.std.specs.Prelude.{slice_get, find}
use Rattle.std.specs.List.{flat_map}
use Rattle.std.proofs.lemmas.Bool.{cases_Bool}
use Rattle.std.proofs.lemmas.Option.{same_Some}
use Rattle.cs_base.proofs.ListLemmas.{front_none as nil_left, nil_behind as nil_right}

-- the list has the element
abbrev pub In : {X : Type 0} → X → List X → Type 0
In x xs = (k : ℕ) × (slice_get xs k ≡ Some x)

-- ---- empty lists

pub map_nil : {X Y : Type 0} (f : X → Y) (xs : List X) → map f xs ≡ [] → xs ≡ []
map_nil f [] e = refl
map_nil f (x ∷ xs) e = absurd (cc)

pub cons_nil : {X : Type 0} (x : X) (xs : List X) → x ∷ xs ≡ [] → ⊥
cons_nil x xs e = cc

flat_nil_at : {X Y : Type 0} (f : X → List Y) (xs : List X) (x : X) (k : ℕ) → flat_map f xs ≡ [] → slice_get xs k ≡ Some x → f x ≡ []
flat_nil_at f [] x k e at = absurd (cc)
flat_nil_at f (y ∷ xs) x zero e at = ap f (sym (same_Some y x at)) ∙ nil_left (f y) (flat_map f xs) e
flat_nil_at f (y ∷ xs) x (suc k) e at = flat_nil_at f xs x k (nil_right (f y) (flat_map f xs) e) at

-- what a list of lists without elements gives for each element
pub flat_nil : {X Y : Type 0} (f : X → List Y) (xs : List X) (x : X) → flat_map f xs ≡ [] → In x xs → f x ≡ []
flat_nil f xs x e i = flat_nil_at f xs x i.0 e i.1

-- ---- elements that pass a test

pub found : {X : Type 0} (test : X → Bool) (xs : List X) (x : X) → find test xs ≡ Some x → In x xs × (test x ≡ true)
found test [] x e = absurd (cc)
found {X = X} test (y ∷ xs) x e = elim (cases_Bool (test y)) [
  | inl passes ↦
      let here : Some y ≡ Some x = rw passes at e in
      ((0, here), ap test (sym (same_Some y x here)) ∙ passes)
  | inr fails ↦
      let later : find test xs ≡ Some x = rw fails at e in
      let r = found test xs x later in
      ((suc r.0.0, r.0.1), r.1)
]

-- ---- lists of lists

in_more : {X : Type 0} (x y : X) (xs : List X) → In x xs → In x (y ∷ xs)
in_more x y xs i = (suc i.0, i.1)

in_first : {X : Type 0} (x : X) (xs ys : List X) (k : ℕ) → slice_get xs k ≡ Some x → In x (xs ++ ys)
in_first x [] ys k e = absurd (cc)
in_first x (y ∷ xs) ys zero e = (0, e)
in_first x (y ∷ xs) ys (suc k) e = in_more x y (xs ++ ys) (in_first x xs ys k e)

in_last : {X : Type 0} (x : X) (xs ys : List X) → In x ys → In x (xs ++ ys)
in_last x [] ys i = i
in_last x (y ∷ xs) ys i = in_more x y (xs ++ ys) (in_last x xs ys i)

flat_at : {X Y : Type 0} (f : X → List Y) (xs : List X) (x : X) (y : Y) (k : ℕ) → slice_get xs k ≡ Some x → In y (f x) → In y (flat_map f xs)
flat_at f [] x y k e j = absurd (cc)
flat_at f (z ∷ xs) x y zero e j =
    let same : z ≡ x = same_Some z x e in
    let here : In y (f z) = rw same j in
    in_first y (f z) (flat_map f xs) here.0 here.1
flat_at f (z ∷ xs) x y (suc k) e j = in_last y (f z) (flat_map f xs) (flat_at f xs x y k e j)

pub in_flat : {X Y : Type 0} (f : X → List Y) (xs : List X) (x : X) (y : Y) → In x xs → In y (f x) → In y (flat_map f xs)
in_flat f xs x y i j = flat_at f xs x y i.0 i.1 j

-- ---- facts of each element

abbrev pub AllOf : {X : Type 0} → (X → Type 0) → List X → Type 0
AllOf P [] = Unit {0}
AllOf P (x ∷ xs) = P x × AllOf P xs

pub all_of : {X : Type 0} (P : X → Type 0) (xs : List X) → ((x : X) → In x xs → P x) → AllOf P xs
all_of P [] each = tt
all_of P (x ∷ xs) each = (each x (0, refl), all_of P xs (λ y i. each y (suc i.0, i.1)))

pub all_at : {X : Type 0} (P : X → Type 0) (xs : List X) → AllOf P xs → (x : X) → In x xs → P x
all_at {X = X} P xs all x i = by xs i.0 all i.1
  where
    by : (ys : List X) (k : ℕ) → AllOf P ys → slice_get ys k ≡ Some x → P x
    by [] k h e = absurd (cc)
    by (y ∷ ys) zero h e = let here : y ≡ x = same_Some y x e in rw (← here) h.0
    by (y ∷ ys) (suc k) h e = by ys k h.1 e
