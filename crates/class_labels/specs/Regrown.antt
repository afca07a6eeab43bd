-- Labels once the parts of one class have another length.
use Rattle.std.specs.Prelude.{ℕ, ◌+◌, ◌≡◌, ◌≤◌, cond, nat_eq, List, [], ◌∷◌, ◌++◌, zero, suc, length, map, replicate, Some, slice_get, slice_index_or, slice_set}
use Rattle.std.specs.List.{flat_map}
use Rattle.class_labels.specs.declared.spots.Spot.{Spot}
use Rattle.class_labels.specs.declared.partition.Row.{Row}
use Rattle.class_labels.specs.Labels.{Labels, fresh_part}
use Rattle.class_labels.specs.Held.{no_row}

-- what stands for a character: a whole part for the first one of a part of class c, nothing for the others of
-- it, itself elsewhere
abbrev pub piece : ℕ → ℕ → Spot → List Spot
piece c m s = cond (nat_eq s.class c) (cond (nat_eq s.offset 0) (fresh_part c m) []) (s ∷ [])

-- how many characters that are
abbrev pub share : ℕ → ℕ → Spot → ℕ
share c m s = cond (nat_eq s.class c) (cond (nat_eq s.offset 0) m 0) 1

-- the number of a character afterwards: what stands for those before it
unfoldable pub place : ℕ → ℕ → List Spot → ℕ → ℕ
place c m spots zero = 0
place c m [] (suc i) = 0
place c m (s ∷ spots) (suc i) = share c m s + place c m spots i

-- each part of class c gets m characters
unfoldable pub regrown : ℕ → ℕ → Labels → Labels
regrown c m t = record {
  spots = flat_map (piece c m) t.spots;
  walks = map (λ walk. map (place c m t.spots) walk) t.walks;
  lengths = slice_set t.lengths c m;
}

-- the list tells the number of each character afterwards, and behind them how many there are
pub record ArePlaces (c m : ℕ) (spots : List Spot) (numbers : List ℕ) : Type 0 where
  pub long : length numbers ≡ length spots + 1
  pub each : (i : ℕ) → i ≤ length spots → slice_get numbers i ≡ Some (place c m spots i)

-- the numbers of the first n characters
unfoldable pub places_before : ℕ → ℕ → List Spot → ℕ → List ℕ
places_before c m spots zero = []
places_before c m spots (suc n) = places_before c m spots n ++ place c m spots n ∷ []

-- the links of the characters: each character that stands for one leads where that one led
unfoldable pub regrown_links : ℕ → ℕ → List ℕ → List Spot → List ℕ → List ℕ
regrown_links c m numbers [] nexts = []
regrown_links c m numbers (s ∷ spots) [] = []
regrown_links c m numbers (s ∷ spots) (x ∷ nexts) = replicate (share c m s) (slice_index_or numbers x 0) ++ regrown_links c m numbers spots nexts

-- a row whose characters have other numbers
abbrev pub moved_row : List ℕ → Row → Row
moved_row numbers row = record { size = row.size; first = slice_index_or numbers row.first 0; last = slice_index_or numbers row.last 0; len = row.len }

-- the rows, that of class c with another length
abbrev pub regrown_rows : ℕ → ℕ → List ℕ → List Row → List Row
regrown_rows c m numbers rows =
    let moved = map (moved_row numbers) rows in
    let row = slice_index_or moved c no_row in
    slice_set moved c (record { size = row.size; first = row.first; last = row.last; len = m })
