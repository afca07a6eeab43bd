-- Two texts row by row (this project's): line k of the new text stands beside line k of the old one. Nothing is searched.
use Rattle.std.specs.Prelude.{ℕ, ◌+◌, ◌-◌, Bool, true, false, if◌then◌else◌, List, [], ◌∷◌, map, slice_range}
use Rattle.std.specs.List.{flat_map, list_any}
use Rattle.std.specs.Str.{bytes_eq}

-- A row: one line that both texts have there; one of the old text and another of the new one; a line of the old text
-- behind the end of the new one; or a line of the new text behind the end of the old one.
pub data Row : Type 0 where
  stays : List ℕ → Row
  changes : List ℕ → List ℕ → Row
  goes : List ℕ → Row
  comes : List ℕ → Row

-- a line beside a line
abbrev pub row_of : List ℕ → List ℕ → Row
row_of old new = if bytes_eq old new then stays old else changes old new

-- the rows of these lines
unfoldable pub rows_of : List (List ℕ) → List (List ℕ) → List Row
rows_of [] news = map comes news
rows_of (old ∷ olds) [] = map goes (old ∷ olds)
rows_of (old ∷ olds) (new ∷ news) = row_of old new ∷ rows_of olds news

-- the line of the old text, if there is one, and that of the new text
abbrev pub old_of : Row → List (List ℕ)
old_of (stays line) = line ∷ []
old_of (changes old new) = old ∷ []
old_of (goes old) = old ∷ []
old_of (comes new) = []

abbrev pub new_of : Row → List (List ℕ)
new_of (stays line) = line ∷ []
new_of (changes old new) = new ∷ []
new_of (goes old) = []
new_of (comes new) = new ∷ []

-- the lines of the old text, and those of the new one
abbrev pub olds : List Row → List (List ℕ)
olds rows = flat_map old_of rows

abbrev pub news : List Row → List (List ℕ)
news rows = flat_map new_of rows

-- the texts differ there
abbrev pub is_changed : Row → Bool
is_changed (stays line) = false
is_changed (changes old new) = true
is_changed (goes old) = true
is_changed (comes new) = true

-- so many rows before a change and behind it are told with it
abbrev pub context : ℕ
context = 3

-- the texts differ in row k, or in one of the three before it or behind it
abbrev pub is_near : List Row → ℕ → Bool
is_near rows k = list_any is_changed (slice_range rows (k - context) (k + context + 1))
