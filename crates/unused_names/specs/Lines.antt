-- Include lines as they are met, unit by unit and event by event.
use Rattle.std.specs.Prelude.{ℕ, ◌≡◌, ◌<◌, ◌⊎◌, ◌&&◌, ◌||◌, not, nat_eq, Bool, true, false, Some, List, [], ◌∷◌, ◌++◌, slice_get}
use Rattle.cs_base.specs.declared.positions.Pos.{Pos}
use Rattle.indexmap.specs.IndexSet.{IndexSet, contains_by}
use Rattle.analysis.specs.Below.unit_steps.Texts.{UnitTextValue}
use Rattle.analysis.specs.Below.scope_bind.declared.bound.Name.{Name}
use Rattle.analysis.specs.Analysis.{UnitAnalysis, AnalysisValue}
use Rattle.analysis.specs.Places.{is_read_only}
use Rattle.unused_names.specs.Unneeded.{Includes, IsUnneeded}

-- The lines that were met, and which of them some inclusion needs.
pub record LinesValue : Type 0 where
  pub all : List Pos
  pub needs : Pos → Bool

abbrev pub lines_and : List Pos → (Pos → Bool) → LinesValue
lines_and all needs = record { all = all; needs = needs }

-- the set has the position
abbrev pub has_position : {S : Type 0} → IndexSet (ℕ × ℕ) S → Pos → Bool
has_position set p = contains_by (λ q. nat_eq p.file q.0 && nat_eq p.at q.1) set

-- a list and a set as lines
abbrev pub lines_in : {S : Type 0} → List Pos → IndexSet (ℕ × ℕ) S → LinesValue
lines_in all needed = lines_and all (has_position needed)

abbrev pub is_position : Pos → Pos → Bool
is_position p q = nat_eq p.file q.file && nat_eq p.at q.at

-- A line was met, for one inclusion.
pub record MeetsLine (at : Pos) (unneeded : Bool) (old new : LinesValue) : Type 0 where
  pub all : new.all ≡ old.all ++ at ∷ []
  pub needs : (p : Pos) → new.needs p ≡ (old.needs p || (not unneeded && is_position at p))

-- event j of unit m comes before event k of unit n
abbrev pub ComesBefore : ℕ → ℕ → ℕ → ℕ → Type 0
ComesBefore n k m j = (m < n) ⊎ ((m ≡ n) × (j < k))

-- an event before event k of unit n begins an inclusion by the line at the position
pub record Meets (units : List UnitAnalysis) (n k : ℕ) (p : Pos) (u : UnitAnalysis) (j : ℕ) : Type 0 where
  pub line : Includes units p u j
  pub before : ComesBefore n k line.number j

-- The lines are those that were met before event k of unit n.
pub record AreLines (units : List UnitAnalysis) (n k : ℕ) (lines : LinesValue) : Type 0 where
  pub met : (i : ℕ) (p : Pos) → slice_get lines.all i ≡ Some p → (u : UnitAnalysis) × (j : ℕ) × Meets units n k p u j
  pub all : (p : Pos) (u : UnitAnalysis) (j : ℕ) → Meets units n k p u j → (i : ℕ) × (slice_get lines.all i ≡ Some p)
  pub needed : (p : Pos) → lines.needs p ≡ true → (u : UnitAnalysis) × (j : ℕ) × Meets units n k p u j × (IsUnneeded u.text u.bound.names j → ⊥)
  pub free : (p : Pos) (u : UnitAnalysis) (j : ℕ) → lines.needs p ≡ false → Meets units n k p u j → IsUnneeded u.text u.bound.names j

-- From event `from` of a unit on to event `to` the lines go on: so it is in each workspace that has such a unit.
pub record GoOn (text : UnitTextValue) (names : List Name) (from to : ℕ) (old new : LinesValue) : Type 0 where
  pub goes_on : (units : List UnitAnalysis) (n : ℕ) (u : UnitAnalysis) → slice_get units n ≡ Some u → u.text ≡ text → u.bound.names ≡ names
      → AreLines units n from old → AreLines units n to new

-- two lists have the same positions
pub record HaveSame (old new : List Pos) : Type 0 where
  pub kept : (k : ℕ) (p : Pos) → slice_get old k ≡ Some p → (j : ℕ) × (slice_get new j ≡ Some p)
  pub only : (j : ℕ) (p : Pos) → slice_get new j ≡ Some p → (k : ℕ) × (slice_get old k ≡ Some p)

-- no inclusion needs the line, and it stands in no read-only file
abbrev pub is_chosen : AnalysisValue → (Pos → Bool) → Pos → Bool
is_chosen a needs p = not (needs p) && not (is_read_only a.table a.workspace.readonly p.file)
