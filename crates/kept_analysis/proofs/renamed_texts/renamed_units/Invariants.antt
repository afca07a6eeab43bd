use Rattle.std.proofs.Common.{◌≡◌, ℕ, Some, map, slice_get}
use Rattle.analysis.specs.Analysis.{UnitAnalysis}
use Rattle.analysis.specs.Changed.{renamed_unit_analysis}
use Rattle.kept_analysis.specs.Following.{IsReadAsBefore}
use Rattle.offences.specs.Moves.{renaming_by}
use Rattle.kept_analysis.proofs.renamed_texts.renamed_units.Given as goal

abbrev pub invariant-loop-unit : goal.invariant-loop-unit
invariant-loop-unit l = record {
  mapped : l.renamed.items ≡ map (renamed_unit_analysis (renaming_by l.moves)) l.yielded;
  left : (k : ℕ) (u : UnitAnalysis) → slice_get l.unit-iterator.rest.items k ≡ Some u → IsReadAsBefore (renaming_by l.moves) u;
}
