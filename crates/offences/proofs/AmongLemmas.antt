-- What stands in lists.
use Rattle.std.proofs.Common.{◌≡◌, zero, suc, List, [], ◌∷◌, ◌++◌, inl, inr, refl}
use Rattle.std.specs.Prelude.{◌⊎◌}
use Rattle.offences.specs.First.{IsAmong}

pub either_among : {X : Type 0} (xs : List X) (y x : X) → IsAmong (xs ++ y ∷ []) x → IsAmong xs x ⊎ (x ≡ y)
either_among [] y x (zero, at) = inr (cc)
either_among [] y x (suc k, at) = absurd (cc)
either_among (z ∷ xs) y x (zero, at) = inl (zero, at)
either_among (z ∷ xs) y x (suc k, at) =
    elim (either_among xs y x (k, at)) [
      | inl old ↦ inl (suc old.0, old.1)
      | inr new ↦ inr new
    ]

pub still_among : {X : Type 0} (xs : List X) (y x : X) → IsAmong xs x → IsAmong (xs ++ y ∷ []) x
still_among [] y x (k, at) = absurd (cc)
still_among (z ∷ xs) y x (zero, at) = (zero, at)
still_among (z ∷ xs) y x (suc k, at) = let later = still_among xs y x (k, at) in (suc later.0, later.1)

pub now_among : {X : Type 0} (xs : List X) (y : X) → IsAmong (xs ++ y ∷ []) y
now_among [] y = (zero, refl)
now_among (z ∷ xs) y = let later = now_among xs y in (suc later.0, later.1)
