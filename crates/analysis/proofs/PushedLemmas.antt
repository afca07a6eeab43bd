-- Lists with one element more.
use Rattle.std.proofs.Common.{◌≡◌, ℕ, ◌+◌, ◌<◌, ◌⊎◌, List, [], ◌∷◌, ◌++◌, zero, suc, length, Some, refl, ap, ◌∙◌, inl, inr, arith}
use Rattle.std.specs.Prelude.{slice_get}
use Rattle.std.proofs.lemmas.Option.{none-some, same_Some}

-- an element of the longer list: an old one, or the new one
pub pushed_cases : {X : Type 0} (xs : List X) (x y : X) (k : ℕ) → slice_get (xs ++ x ∷ []) k ≡ Some y
    → ((k < length xs) × (slice_get xs k ≡ Some y)) ⊎ ((k ≡ length xs) × (x ≡ y))
pushed_cases [] x y zero at = inr (refl, same_Some x y at)
pushed_cases [] x y (suc k) at = absurd (none-some y at)
pushed_cases (z ∷ xs) x y zero at = inl (omega arith, at)
pushed_cases (z ∷ xs) x y (suc k) at = elim (pushed_cases xs x y k at) [
  | inl old ↦ inl (let less = old.0 in omega arith, old.1)
  | inr own ↦ inr (ap (λ (n : ℕ). suc n) own.0, own.1)
]

pub pushed_own : {X : Type 0} (xs : List X) (x : X) → slice_get (xs ++ x ∷ []) (length xs) ≡ Some x
pushed_own [] x = refl
pushed_own (z ∷ xs) x = pushed_own xs x

-- an element of a list behind another
pub behind_at : {X : Type 0} (xs ys : List X) (y : X) (k : ℕ) → slice_get ys k ≡ Some y → slice_get (xs ++ ys) (length xs + k) ≡ Some y
behind_at [] ys y k at = let same : 0 + k ≡ k = omega arith in ap (slice_get ys) same ∙ at
behind_at (z ∷ xs) ys y k at =
    let same : suc (length xs) + k ≡ suc (length xs + k) = omega arith in
    ap (slice_get (z ∷ (xs ++ ys))) same ∙ behind_at xs ys y k at

-- an element of two lists
pub either_at : {X : Type 0} (xs ys : List X) (y : X) (k : ℕ) → slice_get (xs ++ ys) k ≡ Some y
    → (slice_get xs k ≡ Some y) ⊎ ((j : ℕ) × (slice_get ys j ≡ Some y))
either_at [] ys y k at = inr (k, at)
either_at (z ∷ xs) ys y zero at = inl at
either_at (z ∷ xs) ys y (suc k) at = either_at xs ys y k at
