-- Patterns (this project's): a `*` stands for any bytes, perhaps none, and every other byte for itself.
use Rattle.std.specs.Prelude.{ℕ, ◌==◌, ◌&&◌, ◌||◌, Bool, true, false, if◌then◌else◌, List, [], ◌∷◌, ◌++◌, ◌≡◌}

abbrev pub star : ℕ
star = 42

-- some end of the text, the whole or none of it among them, passes the test
abbrev pub some_end : (List ℕ → Bool) → List ℕ → Bool
some_end test [] = test []
some_end test (b ∷ text) = test (b ∷ text) || some_end test text

-- the text begins with the byte, and what follows passes the test
abbrev pub goes_on : ℕ → (List ℕ → Bool) → List ℕ → Bool
goes_on c test [] = false
goes_on c test (b ∷ text) = b == c && test text

abbrev pub is_empty : List ℕ → Bool
is_empty [] = true
is_empty (b ∷ text) = false

-- The pattern matches the whole text.
unfoldable pub matches : List ℕ → List ℕ → Bool
matches [] text = is_empty text
matches (c ∷ pattern) text = if c == star then some_end (matches pattern) text else goes_on c (matches pattern) text

-- The text is what becomes of the pattern where each `*` is replaced by some bytes, perhaps none.
pub data Becomes : List ℕ → List ℕ → Type 0 where
  nothing : Becomes [] []
  replaced : {pattern text : List ℕ} → (bytes : List ℕ) → Becomes pattern text → Becomes (star ∷ pattern) (bytes ++ text)
  kept : {pattern text : List ℕ} → (c : ℕ) → (c ≡ star → ⊥) → Becomes pattern text → Becomes (c ∷ pattern) (c ∷ text)
