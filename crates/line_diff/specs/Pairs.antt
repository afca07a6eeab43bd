-- The lines of two texts as slices, their rows, and how far these are told.
use Rattle.std.specs.Prelude.{ℕ, ◌≡◌, ◌+◌, ◌<◌, ◌≤◌, Bool, false, List, [], ◌∷◌, ◌++◌, map, min, length, slice_get, slice_range}
use Rattle.std.specs.Borrow.{Bor}
use Rattle.std.specs.List.{flat_map}
use Rattle.std.specs.Option.{option_map_or}
use Rattle.line_diff.specs.FileText.{entry_text}
use Rattle.line_diff.specs.Rows.{Row, is_changed, rows_of}
use Rattle.line_diff.specs.Hunks.{Entry, keeps, gets, loses, Hunk, hunk, entries_of}

-- slices as texts
abbrev pub texts_of : List (Bor (List ℕ)) → List (List ℕ)
texts_of slices = map (λ (slice : Bor (List ℕ)). slice.now) slices

-- the rows of lines as slices
abbrev pub rows_in : List (Bor (List ℕ)) → List (Bor (List ℕ)) → List Row
rows_in olds news = rows_of (texts_of olds) (texts_of news)

-- the texts differ in row k, if there is one
abbrev pub is_changed_at : List Row → ℕ → Bool
is_changed_at rows k = option_map_or is_changed (slice_get rows k) false

-- the entry of the line that the old text has in row j, if it has one, where it is kept and where it is lost, and of that which
-- the new one has
abbrev pub kept_at : List (Bor (List ℕ)) → ℕ → List Entry
kept_at olds j = option_map_or (λ (line : Bor (List ℕ)). keeps line.now ∷ []) (slice_get olds j) []

abbrev pub loss_at : List (Bor (List ℕ)) → ℕ → List Entry
loss_at olds j = option_map_or (λ (line : Bor (List ℕ)). loses line.now ∷ []) (slice_get olds j) []

abbrev pub gain_at : List (Bor (List ℕ)) → ℕ → List Entry
gain_at news j = option_map_or (λ (line : Bor (List ℕ)). gets line.now ∷ []) (slice_get news j) []

-- the hunk of the rows from k to before `end`
abbrev pub hunk_at : List (Bor (List ℕ)) → List (Bor (List ℕ)) → ℕ → ℕ → Hunk
hunk_at olds news k end = hunk (min k (length olds)) (min k (length news)) (entries_of [] (slice_range (rows_in olds news) k end))

-- the entries of the rows from j to before `end` as text, while the lines of the new text from the row `told` on are not told
abbrev pub entries_text : List (Bor (List ℕ)) → List (Bor (List ℕ)) → ℕ → ℕ → ℕ → List ℕ
entries_text olds news told j end =
    flat_map entry_text (entries_of (slice_range (texts_of news) told j) (slice_range (rows_in olds news) j end))

-- Row j is told, up to wherever the hunk ends, and the lines of the new text from the row `next` on are not told then.
pub record IsRowTold (olds news : List (Bor (List ℕ))) (told j next : ℕ) (before now : List ℕ) : Type 0 where
  pub within : next ≤ j + 1
  pub left : (end : ℕ) → j < end → now ++ entries_text olds news next (j + 1) end ≡ before ++ entries_text olds news told j end
