-- What is true of every table of classes.
use Rattle.std.specs.Prelude.{ℕ, ◌+◌, ◌^◌, ◌≡◌, ◌<◌, ◌⊎◌, length, Some, slice_get}
use Rattle.cs_base.specs.declared.positions.Pos.{Pos}
use Rattle.eclass_map.specs.declared.token_list.Added.{Added}
use Rattle.class_labels.specs.declared.spots.Spot.{Spot}
use Rattle.class_labels.specs.Labels.{spot}
use Rattle.class_labels.specs.Table.{IsTable}
use Rattle.eclass_map.specs.Positions.{index_at, Begins, AreTokens}
use Rattle.eclass_map.specs.ClassTable.{Table}

pub record IsKept (t : Table) : Type 0 where
  pub table : IsTable t.labels
  pub tokens : AreTokens t.tokens
  pub long : length t.places ≡ length t.labels.spots
  pub short : length t.places < 2 ^ 32
  -- numbers and positions go both ways
  pub placed : (p : Pos) (i : ℕ) → index_at t.tokens p ≡ Some i → slice_get t.places i ≡ Some p
  pub numbered : (i : ℕ) (p : Pos) → slice_get t.places i ≡ Some p → index_at t.tokens p ≡ Some i
  -- behind each token the next one begins, in the order of adding
  pub ends : (k : ℕ) (r : Added) → slice_get t.tokens k ≡ Some r → (r.first + r.place.len ≡ length t.places) ⊎ Begins t.tokens (r.first + r.place.len)
  pub fits : (k : ℕ) (r : Added) → slice_get t.tokens k ≡ Some r → r.place.start.at + r.place.len < 2 ^ 32
  -- each token begins a part, and each part that begins is labelled as one that begins a token
  pub opens : (i : ℕ) (s : Spot) → Begins t.tokens i → slice_get t.labels.spots i ≡ Some s → s.offset ≡ 0
  pub opened : (i c : ℕ) → slice_get t.labels.spots i ≡ Some (spot c 0) → (j : ℕ) × Begins t.tokens j × (slice_get t.labels.spots j ≡ Some (spot c 0))
