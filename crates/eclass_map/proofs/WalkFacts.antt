-- A list that is made of another from the front, one element after another.
use Rattle.std.proofs.Common.{◌≡◌, ℕ, ◌+◌, ◌<◌, List, [], ◌∷◌, ◌++◌, length, map, take, get_or, Option, Some, slice_get, inl, inr, sym, ap, ◌∙◌}
use Rattle.std.proofs.lemmas.List.{length-append, map-append, take_all}
use Rattle.std.proofs.lemmas.Option.{slice_get_cases, slice_get_within, get_or_from_slice_get}
use Rattle.std.proofs.lemmas.Grind.{take_at_read}

pub made_more : {X Y : Type 0} (f : X → Y) (xs : List X) (ys ys' : List Y) (x : X)
    → ys ≡ map f (take (length ys) xs) → slice_get xs (length ys) ≡ Some x → ys' ≡ ys ++ f x ∷ []
    → (ys' ≡ map f (take (length ys') xs)) × (length ys' ≡ length ys + 1)
made_more {X = X} {Y = Y} f xs ys ys' x so_far at more =
    let within : length ys < length xs = slice_get_within xs (length ys) x at in
    let is : get_or xs (length ys) x ≡ x = get_or_from_slice_get xs (length ys) x x at in
    let next : take (length ys + 1) xs ≡ take (length ys) xs ++ get_or xs (length ys) x ∷ [] = (take_at_read xs (length ys) x within).1 in
    let len : length ys' ≡ length ys + 1 = ap length more ∙ length-append ys (f x ∷ []) in
    let whole : ys' ≡ map f (take (length ys + 1) xs) =
    more ∙ ap (λ (l : List Y). l ++ f x ∷ []) so_far ∙ sym (map-append f (take (length ys) xs) (x ∷ []))
    ∙ ap (λ (y : X). map f (take (length ys) xs ++ y ∷ [])) (sym is) ∙ ap (map f) (sym next) in
    (whole ∙ ap (λ (n : ℕ). map f (take n xs)) (sym len), len)

pub made_all : {X Y : Type 0} (f : X → Y) (xs : List X) (ys : List Y) (next : Option X)
    → ys ≡ map f (take (length ys) xs) → next ≡ slice_get xs (length ys) → ((x : X) → next ≡ Some x → ⊥) → ys ≡ map f xs
made_all f xs ys next so_far is none = elim ((slice_get_cases xs (length ys)).1) [
  | inl more ↦ absurd (none more.0 (is ∙ more.2))
  | inr past ↦ so_far ∙ ap (map f) (take_all (length ys) xs past.0)
]
