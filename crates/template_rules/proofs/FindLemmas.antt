-- The first element of a list that passes a test.
use Rattle.std.proofs.Common.{◌≡◌, ℕ, zero, suc, ◌+◌, ◌<◌, ◌≤◌, Bool, true, false, List, [], ◌∷◌, ◌++◌, length, take, get_or, Option, Some, None, refl, sym, ap, ◌∙◌, inl, inr, arith}
use Rattle.std.specs.Prelude.{find}
use Rattle.std.proofs.lemmas.Bool.{cases_Bool}
use Rattle.std.proofs.lemmas.List.{take_all}

pub found_at : {X : Type 0} (p : X → Bool) (xs : List X) (k : ℕ) (x : X) → k < length xs → x ≡ get_or xs k x → p x ≡ true
    → find p (take k xs) ≡ None → find p xs ≡ Some x
found_at p [] k x lt is passes before = absurd (omega (arith, lt))
found_at p (y ∷ xs) zero x lt is passes before = let here : p y ≡ true = rw is at passes in rw here (ap (λ (z : _). Some z) (sym is))
found_at p (y ∷ xs) (suc k) x lt is passes before = elim (cases_Bool (p y)) [
  | inl here ↦ let found : Some y ≡ None = rw here at before in absurd cc
  | inr not ↦ let later = rw not at before in rw not (found_at p xs k x (omega (arith, lt)) is passes later)
]

pub found_later : {X : Type 0} (p : X → Bool) (xs : List X) (k : ℕ) (x : X) → k < length xs → x ≡ get_or xs k x → p x ≡ false
    → find p (take k xs) ≡ None → find p (take (k + 1) xs) ≡ None
found_later p [] k x lt is fails before = absurd (omega (arith, lt))
found_later p (y ∷ xs) zero x lt is fails before = let here : p y ≡ false = rw is at fails in rw here refl
found_later p (y ∷ xs) (suc k) x lt is fails before =
    let on : suc k + 1 ≡ suc (k + 1) = omega arith in
    elim (cases_Bool (p y)) [
      | inl here ↦ let found : Some y ≡ None = rw here at before in absurd cc
      | inr not ↦ let later = rw not at before in rw (on, not) (found_later p xs k x (omega (arith, lt)) is fails later)
    ]

pub found_none : {X : Type 0} (p : X → Bool) (xs : List X) (k : ℕ) → length xs ≤ k → find p (take k xs) ≡ None → find p xs ≡ None
found_none p xs k past before = rw (← take_all k xs past) before
