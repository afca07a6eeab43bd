use Rattle.std.proofs.Common.{◌≡◌, take}
use Rattle.std.specs.List.{flat_map}
use Rattle.analysis.specs.Analysis.{UnitAnalysis}
use Rattle.macro_rules.specs.Macros.{called_place}
use Rattle.macro_rules.proofs.replacements.called_places.Given as goal

abbrev pub invariant-loop-unit : goal.invariant-loop-unit
invariant-loop-unit l = l.out ≡ flat_map (λ (u : UnitAnalysis). flat_map (called_place l.macros) u.text.events) (take l.unit l.a.value.units)
