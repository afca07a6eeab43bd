-- What follows in an expansion, frame by frame.
use Rattle.std.proofs.Common.{◌≡◌, ℕ, zero, suc, ◌-◌, ◌<◌, ◌&&◌, true, List, [], ◌∷◌, ◌++◌, length, map, reverse, Some, None, refl, sym, ap, ◌∙◌, arith}
use Rattle.std.specs.Option.{option_map}
use Rattle.std.specs.List.{list_all}
use Rattle.std.specs.Prelude.{slice_get}
use Rattle.std.proofs.lemmas.Bool.{false≢true, and_parts}
use Rattle.std.proofs.lemmas.List.{nil_from_length, length-reverse}
use Rattle.std.proofs.lemmas.List.Folds.{list_all-append}
use Rattle.std.proofs.lemmas.Option.{none-some, same_Some}
use Rattle.macro_body.specs.Hides.{Hidden, hide_more}
use Rattle.macro_expand.specs.declared.rest.Frame.{Frame}
use Rattle.macro_expand.specs.Following.{first_of}
use Rattle.macro_expand.specs.Frames.{rest_of, rests_above, goes_on, AreFilled}

-- a frame above others
rests_above-push : (fs : List Frame) (f : Frame) (low : List Hidden) → rests_above (fs ++ f ∷ []) low ≡ rest_of f.names f.toks.items ++ rests_above fs low
rests_above-push [] f low = refl
rests_above-push (g ∷ gs) f low = rests_above-push gs f (rest_of g.names g.toks.items ++ low)

pub pushed : (fs fs2 : List Frame) (f : Frame) (low : List Hidden) → fs2 ≡ fs ++ f ∷ [] → rests_above fs2 low ≡ rest_of f.names f.toks.items ++ rests_above fs low
pushed fs fs2 f low is = ap (λ (all : List Frame). rests_above all low) is ∙ rests_above-push fs f low

-- where nothing is left of the top frame, the one below it takes its place
pub raised : (names : List (List ℕ)) (toks : List Hidden) (fs fs2 : List Frame) (f : Frame) (low : List Hidden) → toks ≡ [] → fs ≡ fs2 ++ f ∷ []
    → rest_of f.names f.toks.items ++ rests_above fs2 low ≡ rest_of names toks ++ rests_above fs low
raised names toks fs fs2 f low none is =
    sym (ap (λ (xs : List Hidden). rest_of names xs ++ rests_above fs low) none ∙ pushed fs2 fs f low is)

-- ---- the last element

last_at : {X : Type 0} (xs : List X) (n : ℕ) (x : X) → length xs ≡ suc n → slice_get xs n ≡ Some x → (ys : List X) × (xs ≡ ys ++ x ∷ [])
last_at [] n x len is = absurd (none-some x is)
last_at {X = X} (y ∷ ys) zero x len is =
    let none : ys ≡ [] = nil_from_length ys (omega (arith, len)) in
    ([], ap (λ (zs : List X). y ∷ zs) none ∙ ap (λ (z : X). z ∷ []) (same_Some y x is))
last_at {X = X} (y ∷ ys) (suc n) x len is =
    let i = last_at ys n x (omega (arith, len)) is in
    (y ∷ i.0, ap (λ (zs : List X). y ∷ zs) i.1)

pub last_is : {X : Type 0} (xs : List X) (x : X) → slice_get xs (length xs - 1) ≡ Some x → (ys : List X) × (xs ≡ ys ++ x ∷ [])
last_is [] x is = absurd (none-some x is)
last_is {X = X} (y ∷ ys) x is =
    let len : suc (length ys) - 1 ≡ length ys = omega arith in
    last_at (y ∷ ys) (length ys) x refl (sym (ap (slice_get (y ∷ ys)) len) ∙ is)

present : {X : Type 0} (xs : List X) (n : ℕ) → n < length xs → slice_get xs n ≡ None → ⊥
present [] n few is = absurd (omega (arith, few))
present (y ∷ ys) zero few is = absurd (none-some y (sym is))
present (y ∷ ys) (suc n) few is = present ys n (omega (arith, few)) is

pub none_last : {X : Type 0} (xs : List X) → slice_get xs (length xs - 1) ≡ None → xs ≡ []
none_last [] is = refl
none_last (y ∷ ys) is = absurd (present (y ∷ ys) (suc (length ys) - 1) (omega arith) is)

-- ---- the first token

first_of-rest : (names : List (List ℕ)) (xs low : List Hidden) → 0 < length xs
    → option_map (λ (h : Hidden). h.tok) (first_of (map (hide_more names) xs ++ low)) ≡ option_map (λ (h : Hidden). h.tok) (first_of xs)
first_of-rest names [] low some = absurd (omega (arith, some))
first_of-rest names (x ∷ xs) low some = refl

goes_on-length : (xs : List Hidden) → goes_on xs ≡ true → 0 < length (reverse xs)
goes_on-length [] h = absurd (false≢true h)
goes_on-length (x ∷ xs) h = let len = length-reverse (x ∷ xs) in omega (arith, len)

-- where nothing is left of the top frame, the first token is that of the frame below it
pub first_below : (names : List (List ℕ)) (toks : List Hidden) (fs : List Frame) (f : Frame) (low all : List Hidden)
    → rest_of names toks ++ rests_above fs low ≡ all → slice_get toks (length toks - 1) ≡ None → slice_get fs (length fs - 1) ≡ Some f → AreFilled fs
    → option_map (λ (h : Hidden). h.tok) (first_of (reverse f.toks.items)) ≡ option_map (λ (h : Hidden). h.tok) (first_of all)
first_below names toks fs f low all is none last filled =
    let i = last_is fs f last in
    let parts = and_parts (list_all (λ (g : Frame). goes_on g.toks.items) i.0) (goes_on f.toks.items && true) (sym (list_all-append (λ (g : Frame). goes_on g.toks.items) i.0 (f ∷ [])) ∙ sym (ap (list_all (λ (g : Frame). goes_on g.toks.items)) i.1) ∙ filled) in
    let here = and_parts (goes_on f.toks.items) true parts.1 in
    sym (first_of-rest f.names (reverse f.toks.items) (rests_above i.0 low) (goes_on-length f.toks.items here.0))
    ∙ ap (λ (xs : List Hidden). option_map (λ (h : Hidden). h.tok) (first_of xs)) (sym (pushed i.0 fs f low i.1) ∙ sym (ap (λ (xs : List Hidden). rest_of names xs ++ rests_above fs low) (none_last toks none)) ∙ is)
