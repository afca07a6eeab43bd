-- The tokens of a unit that are left, as code holds them, and what is compared.
use Rattle.std.specs.Prelude.{ℕ, ◌≡◌, ◌≤◌, ◌<◌, ◌+◌, ◌||◌, Bool, true, false, Option, Some, None, List, length, slice_get, slice_index_or}
use Rattle.std.specs.Option.{option_map}
use Rattle.std.specs.Borrow.{Bor}
use Rattle.std.specs.Str.{bytes_eq}
use Rattle.cs_base.specs.declared.positions.Pos.{Pos}
use Rattle.indexmap.specs.IndexSet.{IndexSet, contains_by}
use Rattle.analysis.specs.Below.source_files.Files.{Table, absent_at}
use Rattle.analysis.specs.Below.scope_bind.declared.bound.Name.{Name}
use Rattle.analysis.specs.Below.scope_bind.Names.{entity_at, declares_at}
use Rattle.analysis.specs.Analysis.{UnitAnalysis, AnalysisValue}
use Rattle.trim_plan.specs.declared.left.Left.{Left}
use Rattle.trim_plan.specs.Left.{is_gone, place, pruned}
use Rattle.trim_plan.specs.Trimmed.{plain, IsLeftEntity, IsLeftName, WasAbsent}

abbrev pub mark_at : List Bool → ℕ → Bool
mark_at marks k = slice_index_or marks k false

-- these tokens were marked besides
pub record MarksMore (more : ℕ → Bool) (old new : List Bool) : Type 0 where
  pub many : length new ≡ length old
  pub each : (k : ℕ) → k < length old → mark_at new k ≡ (mark_at old k || more k)

-- the marks tell which tokens are gone, of so many
pub record AreGoneMarks (gone : ℕ → Bool) (count : ℕ) (marks : List Bool) : Type 0 where
  pub many : length marks ≡ count
  pub each : (k : ℕ) → mark_at marks k ≡ gone k

-- the places tell of so many tokens, and of their end, how many before are left
pub record ArePlaces (gone : ℕ → Bool) (count : ℕ) (places : List ℕ) : Type 0 where
  pub many : length places ≡ count + 1
  pub each : (k : ℕ) → k ≤ count → slice_index_or places k 0 ≡ place gone k

-- they are those of a unit
pub record IsLeftOf (gone : ℕ → Bool) (count : ℕ) (l : Left) : Type 0 where
  pub marks : AreGoneMarks gone count l.gone.items
  pub places : ArePlaces gone count l.places.items

-- token k and the one at this place declare alike, and denote the same
pub record IsLeftNameAt (gone : ℕ → Bool) (old new : List Name) (k at : ℕ) : Type 0 where
  pub entity : entity_at new at ≡ option_map (place gone) (entity_at old k)
  pub declares : declares_at new at ≡ declares_at old k
  pub own : (e : ℕ) → entity_at old k ≡ Some e → IsLeftEntity gone old new e

-- a token that is left is that of its place, and denotes what it denoted
pub record IsSameLeft (gone : ℕ → Bool) (u v : UnitAnalysis) (k : ℕ) : Type 0 where
  pub tok : option_map plain (slice_get v.text.toks (place gone k)) ≡ option_map plain (slice_get u.text.toks k)
  pub name : IsLeftName gone u.bound.names v.bound.names k

abbrev pub IsAlike : (ℕ → Bool) → UnitAnalysis → UnitAnalysis → ℕ → Type 0
IsAlike gone u v k = gone k ≡ false → IsSameLeft gone u v k

-- what was compared of a unit
pub record IsCompared (gone : ℕ → Bool) (u v : UnitAnalysis) : Type 0 where
  pub many : length v.text.toks ≡ place gone (length u.text.toks)
  pub each : (k : ℕ) → k < length u.text.toks → IsAlike gone u v k
  pub tree : v.tree ≡ pruned gone u.tree

-- what was asked for and not there the second time was not the first time
abbrev pub AsksNoMore : Table → Table → Type 0
AsksNoMore old new = (k : ℕ) (path : List ℕ) → absent_at new k ≡ Some path → WasAbsent old path

-- the set has the path
abbrev pub has_path : {S : Type 0} → IndexSet (Bor (List ℕ)) S → List ℕ → Bool
has_path set path = contains_by (λ k. bytes_eq path k.now) set

-- each path of the set was asked for, and not there
abbrev pub AreAbsent : Table → (List ℕ → Bool) → Type 0
AreAbsent table has = (path : List ℕ) → has path ≡ true → WasAbsent table path

-- .. and of an analysis
pub record AreCompared (lines : List Pos) (a b : AnalysisValue) : Type 0 where
  pub many : length b.units ≡ length a.units
  pub units : (n : ℕ) (u v : UnitAnalysis) → slice_get a.units n ≡ Some u → slice_get b.units n ≡ Some v → IsCompared (is_gone lines u.text) u v
  pub asked : AsksNoMore a.table b.table
