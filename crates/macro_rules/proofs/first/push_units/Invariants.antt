use Rattle.std.proofs.Common.{◌≡◌, ◌++◌, take}
use Rattle.std.specs.List.{flat_map}
use Rattle.analysis.specs.Analysis.{UnitAnalysis}
use Rattle.macro_rules.specs.Offences.{indirect_offences, text_offences}
use Rattle.macro_rules.proofs.first.push_units.Given as goal

abbrev pub invariant-loop-unit : goal.invariant-loop-unit
invariant-loop-unit l =
    (l.events.items ≡ l.initial.events.items ++ flat_map (λ (u : UnitAnalysis). flat_map (indirect_offences l.macros) u.text.events) (take l.unit l.a.value.units))
    × (l.texts.items ≡ l.initial.texts.items ++ flat_map (λ (u : UnitAnalysis). text_offences l.calls u.text) (take l.unit l.a.value.units))
