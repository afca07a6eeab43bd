use Rattle.std.proofs.Common.{◌≡◌, false, take}
use Rattle.std.specs.List.{list_any}
use Rattle.cs_base.specs.Units.{is_gnu}
use Rattle.analysis.specs.Analysis.{UnitAnalysis}
use Rattle.rename_rules.proofs.words_and_texts.has_gnu.Given as goal

abbrev pub invariant-loop-unit : goal.invariant-loop-unit
invariant-loop-unit l = list_any (λ (u : UnitAnalysis). is_gnu u.standard) (take l.unit l.a.value.units) ≡ false
