-- Elements of lists of numbers, and lists of labels mapped.
use Rattle.std.proofs.Common.{◌≡◌, ℕ, ◌<◌, ◌⊎◌, List, [], ◌∷◌, ◌++◌, zero, suc, length, map, get_or, refl, ap, sym, inl, inr, arith, subst, Some}
use Rattle.std.specs.Prelude.{slice_get}
use Rattle.std.proofs.lemmas.Option.{none-some, same_Some}
use Rattle.class_labels.specs.Table.{In, Distinct}

pub In-append_left : (x : ℕ) (xs ys : List ℕ) → In x xs → In x (xs ++ ys)
In-append_left x [] ys h = absurd h
In-append_left x (y ∷ xs) ys h = elim h [ inl e ↦ inl e | inr i ↦ inr (In-append_left x xs ys i) ]

pub In-append_right : (x : ℕ) (xs ys : List ℕ) → In x ys → In x (xs ++ ys)
In-append_right x [] ys h = h
In-append_right x (y ∷ xs) ys h = inr (In-append_right x xs ys h)

pub In-append_cases : (x : ℕ) (xs ys : List ℕ) → In x (xs ++ ys) → In x xs ⊎ In x ys
In-append_cases x [] ys h = inr h
In-append_cases x (y ∷ xs) ys h = elim h [
  | inl e ↦ inl (inl e)
  | inr i ↦ elim (In-append_cases x xs ys i) [ inl l ↦ inl (inr l) | inr r ↦ inr r ]
]

pub In-map : (f : ℕ → ℕ) (x : ℕ) (xs : List ℕ) → In x xs → In (f x) (map f xs)
In-map f x [] h = absurd h
In-map f x (y ∷ xs) h = elim h [ inl e ↦ inl (ap f e) | inr i ↦ inr (In-map f x xs i) ]

-- an element of a mapped list comes from one of the list
pub record Source (f : ℕ → ℕ) (y : ℕ) (xs : List ℕ) : Type 0 where
  pub source : ℕ
  pub among : In source xs
  pub to : y ≡ f source

pub In-map_cases : (f : ℕ → ℕ) (y : ℕ) (xs : List ℕ) → In y (map f xs) → Source f y xs
In-map_cases f y [] h = absurd h
In-map_cases f y (x ∷ xs) h = elim h [
  | inl e ↦ record { source = x; among = inl refl; to = e }
  | inr i ↦ let s = In-map_cases f y xs i in record { source = s.source; among = inr s.among; to = s.to }
]

pub In-get_or : (xs : List ℕ) (k d : ℕ) → k < length xs → In (get_or xs k d) xs
In-get_or [] k d h = absurd (omega arith)
In-get_or (x ∷ xs) zero d h = inl refl
In-get_or (x ∷ xs) (suc k) d h = inr (In-get_or xs k d (omega arith))

Distinct-map_apart : (f : ℕ → ℕ) (same : (x y : ℕ) → f x ≡ f y → x ≡ y) (x : ℕ) (xs : List ℕ) → (In x xs → ⊥) → In (f x) (map f xs) → ⊥
Distinct-map_apart f same x xs apart i =
    let s = In-map_cases f (f x) xs i in
    let P : ℕ → Type 0 = λ z. In z xs in
    apart (subst P (sym (same x s.source s.to)) s.among)

pub Distinct-map : (f : ℕ → ℕ) (same : (x y : ℕ) → f x ≡ f y → x ≡ y) (xs : List ℕ) → Distinct xs → Distinct (map f xs)
Distinct-map f same [] h = tt
Distinct-map f same (x ∷ xs) h = (λ i. Distinct-map_apart f same x xs h.0 i, Distinct-map f same xs h.1)

pub Distinct-append : (xs ys : List ℕ) → Distinct xs → Distinct ys → ((x : ℕ) → In x xs → In x ys → ⊥) → Distinct (xs ++ ys)
Distinct-append [] ys h g apart = g
Distinct-append (x ∷ xs) ys h g apart = (
  λ i. elim (In-append_cases x xs ys i) [ inl l ↦ h.0 l | inr r ↦ apart x (inl refl) r ],
  Distinct-append xs ys h.1 g (λ z l r. apart z (inr l) r),
)

-- what stood where a mapped list has y
pub record Was {A B : Type 0} (f : A → B) (xs : List A) (k : ℕ) (y : B) : Type 0 where
  pub was : A
  pub at : slice_get xs k ≡ Some was
  pub is : f was ≡ y

pub was_at : {A B : Type 0} (f : A → B) (xs : List A) (k : ℕ) (y : B) → slice_get (map f xs) k ≡ Some y → Was f xs k y
was_at f [] k y h = absurd (none-some y h)
was_at f (x ∷ xs) zero y h = record { was = x; at = refl; is = same_Some (f x) y h }
was_at f (x ∷ xs) (suc k) y h = let w = was_at f xs k y h in record { was = w.was; at = w.at; is = w.is }

pub now_at : {A B : Type 0} (f : A → B) (xs : List A) (k : ℕ) (x : A) → slice_get xs k ≡ Some x → slice_get (map f xs) k ≡ Some (f x)
now_at f [] k x h = absurd (none-some x h)
now_at f (y ∷ xs) zero x h = ap (λ z. Some (f z)) (same_Some y x h)
now_at f (y ∷ xs) (suc k) x h = now_at f xs k x h

-- what stands at c after two writes in turn
pub get_or-append_last : {X : Type 0} (xs : List X) (y d : X) (c : ℕ) → c ≡ length xs → get_or (xs ++ y ∷ []) c d ≡ y
get_or-append_last [] y d zero h = refl
get_or-append_last [] y d (suc c) h = absurd (omega arith)
get_or-append_last (x ∷ xs) y d zero h = absurd (omega arith)
get_or-append_last (x ∷ xs) y d (suc c) h = get_or-append_last xs y d c (omega arith)
