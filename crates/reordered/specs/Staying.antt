-- What stays in every new order: the standards of units and the paths of files, by their numbers.
use Rattle.std.specs.Prelude.{ℕ, ◌≡◌, List, map, slice_get, Some}
use Rattle.cs_base.specs.declared.positions.Part.{Part}
use Rattle.analysis.specs.Analysis.{UnitAnalysis, AnalysisValue}
use Rattle.reordered.specs.Reordered.{IsReorderedAnalysis}

-- The law: a table has the paths that it had, by their numbers.
abbrev pub ReorderedPathsStay : Type 0
ReorderedPathsStay = (members : List Part) (order : List ℕ) (old new : AnalysisValue) → IsReorderedAnalysis members order old new
    → map (λ e. e.path) new.table ≡ map (λ e. e.path) old.table

-- The law: each unit is read by the standard that it was.
abbrev pub ReorderedStandardsStay : Type 0
ReorderedStandardsStay = (members : List Part) (order : List ℕ) (old new : AnalysisValue) → IsReorderedAnalysis members order old new
    → (n : ℕ) (u v : UnitAnalysis) → slice_get old.units n ≡ Some u → slice_get new.units n ≡ Some v → v.standard ≡ u.standard
