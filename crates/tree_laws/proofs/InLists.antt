-- Elements of lists, and what is found among them.
use Rattle.std.proofs.Common.{◌≡◌, Bool, true, false, cond, List, [], ◌∷◌, ◌++◌, map, reverse, Option, Some, ◌⊎◌, inl, inr, refl}
use mathlib.Core.List.{reverse-cons}
use Rattle.std.specs.Prelude.{find, filter}
use Rattle.std.specs.List.{All}
use Rattle.std.proofs.lemmas.List.Elements.{All-nil, All-cons, All-head, All-tail, All-push, All-same}

abbrev pub In : {X : Type 0} → X → List X → Type 0
In x [] = ⊥
In x (y ∷ ys) = (y ≡ x) ⊎ In x ys

in_step : {X : Type 0} (b : Bool) (x y : X) (fp : Option X) (xs : List X) → cond b (Some x) fp ≡ Some y → (fp ≡ Some y → In y xs) → In y (x ∷ xs)
in_step true x y fp xs f rest = inl cc
in_step false x y fp xs f rest = inr (rest f)

-- .. and is one of the list
pub found_in : {X : Type 0} (p : X → Bool) (xs : List X) (y : X) → find p xs ≡ Some y → In y xs
found_in p [] y f = absurd cc
found_in p (x ∷ xs) y f = in_step (p x) x y (find p xs) xs f (found_in p xs y)

pub all_mapped : {X Y : Type 0} (P : Y → Type 0) (f : X → Y) (xs : List X) → ((x : X) → In x xs → P (f x)) → All P (map f xs)
all_mapped P f [] h = All-nil P
all_mapped P f (x ∷ xs) h = All-cons P (f x) (map f xs) (h x (inl refl)) (all_mapped P f xs (λ y w. h y (inr w)))

pub all_reversed : {X : Type 0} (P : X → Type 0) (xs : List X) → All P xs → All P (reverse xs)
all_reversed P [] h = All-nil P
all_reversed P (x ∷ xs) h =
    All-same P (reverse (x ∷ xs)) (reverse xs ++ x ∷ []) (reverse-cons x xs)
    (All-push P (reverse xs) x (all_reversed P xs (All-tail P x xs h)) (All-head P x xs h))

all_step : {X : Type 0} (P : X → Type 0) (b : Bool) (x : X) (ys : List X) → (b ≡ true → P x) → All P ys → All P (cond b (x ∷ ys) ys)
all_step P true x ys h rest = All-cons P x ys (h refl) rest
all_step P false x ys h rest = rest

-- .. and of those that pass
pub all_filtered : {X : Type 0} (P : X → Type 0) (p : X → Bool) (xs : List X) → ((x : X) → In x xs → p x ≡ true → P x) → All P (filter p xs)
all_filtered P p [] h = All-nil P
all_filtered P p (x ∷ xs) h = all_step P (p x) x (filter p xs) (h x (inl refl)) (all_filtered P p xs (λ y w. h y (inr w)))
