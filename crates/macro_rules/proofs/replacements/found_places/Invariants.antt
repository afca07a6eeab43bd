use Rattle.std.proofs.Common.{◌≡◌, take}
use Rattle.std.specs.List.{flat_map}
use Rattle.analysis.specs.Analysis.{UnitAnalysis}
use Rattle.macro_rules.specs.Macros.{defined_place, number_place, replaced_place}
use Rattle.macro_rules.proofs.replacements.found_places.Given as goal

abbrev pub invariant-loop-unit : goal.invariant-loop-unit
invariant-loop-unit l =
    (l.macros ≡ flat_map (λ (u : UnitAnalysis). flat_map (defined_place l.class.members) u.text.events) (take l.unit l.a.value.units))
    × (l.replaced ≡ flat_map (λ (u : UnitAnalysis). flat_map (replaced_place l.replacing) u.text.events) (take l.unit l.a.value.units))
    × (l.lines ≡ flat_map (λ (u : UnitAnalysis). flat_map number_place u.text.events) (take l.unit l.a.value.units))
