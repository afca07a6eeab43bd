-- What contracts see of the fields of a partition.
use Rattle.std.specs.Prelude.{ℕ, ◌^◌, ◌≡◌, ◌<◌, ◌≤◌, List, length, map, slice_index_or}
use Rattle.class_labels.specs.declared.partition.Row.{Row}
use Rattle.class_labels.specs.declared.spots.Spot.{Spot}
use Rattle.class_labels.specs.Labels.{Labels}
use Rattle.class_labels.specs.Table.{IsTable}
use Rattle.class_labels.specs.Links.{members, last_of}

-- the walk of the class of a row
abbrev pub row_walk : List ℕ → Row → List ℕ
row_walk nexts row = members row.size nexts row.first

abbrev pub labels_of : List Spot → List ℕ → List Row → Labels
labels_of spots nexts rows = record {
  spots = spots;
  walks = map (row_walk nexts) rows;
  lengths = map (λ (row : Row). row.len) rows;
}

-- a row of a class that has parts knows the last of its walk
abbrev pub KnowsLast : List ℕ → Row → Type 0
KnowsLast nexts row = 0 < row.size → row.last ≡ last_of (row_walk nexts row)

abbrev pub no_row : Row
no_row = record { size = 0; first = 0; last = 0; len = 0 }

-- What is true of the fields: the labels are a table, each character has a link, and there is room for a
-- number for each character.
pub record AreFields (spots : List Spot) (nexts : List ℕ) (rows : List Row) (room : ℕ) : Type 0 where
  pub table : IsTable (labels_of spots nexts rows)
  pub linked : length nexts ≡ length spots
  pub lasts : (c : ℕ) → c < length rows → KnowsLast nexts (slice_index_or rows c no_row)
  pub short : length spots < 2 ^ 32
  pub roomy : length spots ≤ room
