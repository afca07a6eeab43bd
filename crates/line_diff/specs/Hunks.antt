-- The hunks between two texts: what a patch replaces, and where (the unified format of diff).
use Rattle.std.specs.Prelude.{ℕ, ◌+◌, Bool, true, false, not, if◌then◌else◌, List, [], ◌∷◌, ◌++◌, map, length}
use Rattle.std.specs.List.{flat_map}
use Rattle.line_diff.specs.Lines.{lines_of}
use Rattle.line_diff.specs.Rows.{Row, stays, changes, goes, comes, rows_of, olds, news, is_near}

-- An entry of a hunk: a line that both texts have, one that the old text has and loses, or one that the new text gets.
pub data Entry : Type 0 where
  keeps : List ℕ → Entry
  loses : List ℕ → Entry
  gets : List ℕ → Entry

-- the lines of entries that the old text has, and those that the new one has
abbrev pub old_line : Entry → List (List ℕ)
old_line (keeps line) = line ∷ []
old_line (loses line) = line ∷ []
old_line (gets line) = []

abbrev pub new_line : Entry → List (List ℕ)
new_line (keeps line) = line ∷ []
new_line (loses line) = []
new_line (gets line) = line ∷ []

abbrev pub old_lines : List Entry → List (List ℕ)
old_lines entries = flat_map old_line entries

abbrev pub new_lines : List Entry → List (List ℕ)
new_lines entries = flat_map new_line entries

-- A hunk: how many lines of the old text stand before it, and how many of the new one, and its entries.
pub record Hunk : Type 0 where
  pub old_before : ℕ
  pub new_before : ℕ
  pub entries : List Entry

-- a hunk of these parts
abbrev pub hunk : ℕ → ℕ → List Entry → Hunk
hunk old_before new_before entries = record { old_before = old_before; new_before = new_before; entries = entries }

-- The entries of rows: where rows that differ stand together, the lines of the old text come first. `got` are the lines that
-- the new text has in place of those of the old text that were told last.
unfoldable pub entries_of : List (List ℕ) → List Row → List Entry
entries_of got [] = map gets got
entries_of got (stays line ∷ rows) = map gets got ++ keeps line ∷ entries_of [] rows
entries_of got (changes old new ∷ rows) = loses old ∷ entries_of (got ++ new ∷ []) rows
entries_of got (goes old ∷ rows) = loses old ∷ entries_of got rows
entries_of got (comes new ∷ rows) = entries_of (got ++ new ∷ []) rows

-- A stretch of rows: all of them are near a change, or none is.
pub record Stretch : Type 0 where
  pub near : Bool
  pub rows : List Row

-- a stretch of these parts
abbrev pub stretch : Bool → List Row → Stretch
stretch near rows = record { near = near; rows = rows }

-- both are so, or neither
abbrev pub are_alike : Bool → Bool → Bool
are_alike true b = b
are_alike false b = not b

-- a row in front of stretches: it joins the first one where both are near a change, or neither is
abbrev pub with_row : Bool → Row → List Stretch → List Stretch
with_row near row [] = stretch near (row ∷ []) ∷ []
with_row near row (s ∷ more) =
    if are_alike near s.near then stretch near (row ∷ s.rows) ∷ more else stretch near (row ∷ []) ∷ s ∷ more

-- the stretches of rows, the first of which has the number k
unfoldable pub stretches_of : (ℕ → Bool) → ℕ → List Row → List Stretch
stretches_of near k [] = []
stretches_of near k (row ∷ rows) = with_row (near k) row (stretches_of near (k + 1) rows)

-- the hunks of stretches before which so many lines of the texts stand: those that are near a change
unfoldable pub hunks_in : ℕ → ℕ → List Stretch → List Hunk
hunks_in old_before new_before [] = []
hunks_in old_before new_before (s ∷ more) =
    (if s.near then hunk old_before new_before (entries_of [] s.rows) ∷ [] else [])
    ++ hunks_in (old_before + length (olds s.rows)) (new_before + length (news s.rows)) more

-- the hunks of rows
abbrev pub hunks_of_rows : List Row → List Hunk
hunks_of_rows rows = hunks_in 0 0 (stretches_of (is_near rows) 0 rows)

-- The hunks between two texts.
abbrev pub hunks_of : List ℕ → List ℕ → List Hunk
hunks_of old new = hunks_of_rows (rows_of (lines_of old) (lines_of new))
