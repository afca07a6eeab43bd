-- Lists of characters that are whole tokens, one after another.
use Rattle.std.specs.Prelude.{ℕ, ◌+◌, ◌≡◌, ◌<◌, ◌⊎◌, List, [], ◌∷◌, Some, slice_get}
use Rattle.class_labels.specs.Labels.{Labels, spot}

-- a token ends with character x: the next one begins a token, or there is none; `Begins` tells which
-- characters begin one, and n is how many there are
abbrev pub IsEnd : (ℕ → Type 0) → ℕ → ℕ → Type 0
IsEnd Begins n x = (x + 1 ≡ n) ⊎ Begins (x + 1)

-- y may come after x: the next character, or a token's beginning behind a token's end
pub record NextOf (Begins : ℕ → Type 0) (n x y : ℕ) : Type 0 where
  pub held : y < n
  pub next : (y ≡ x + 1) ⊎ (IsEnd Begins n x × Begins y)

-- what comes after x goes on to a token's end
abbrev pub Follows : (ℕ → Type 0) → ℕ → ℕ → List ℕ → Type 0
Follows Begins n x [] = IsEnd Begins n x
Follows Begins n x (y ∷ ys) = NextOf Begins n x y × Follows Begins n y ys

-- the list goes on to a token's end
abbrev pub Runs : (ℕ → Type 0) → ℕ → List ℕ → Type 0
Runs Begins n [] = Unit {0}
Runs Begins n (x ∷ xs) = (x < n) × Follows Begins n x xs

-- the character at place k of the list, where there is one, begins a part
abbrev pub BeginsAt : Labels → List ℕ → ℕ → Type 0
BeginsAt t xs k = (z : ℕ) → slice_get xs k ≡ Some z → (c : ℕ) × (slice_get t.spots z ≡ Some (spot c 0))

-- equal places of two lists
pub record IsPair (xs ys : List ℕ) (p q : ℕ) : Type 0 where
  pub place : ℕ
  pub first : slice_get xs place ≡ Some p
  pub second : slice_get ys place ≡ Some q
