use Rattle.std.proofs.Common.{take}
use Rattle.std.specs.List.{flat_map}
use Rattle.offences.specs.First.{FirstThen}
use Rattle.template_rules.proofs.UnitLemmas.{macro_names_of}
use Rattle.template_rules.proofs.macro_names.at_macro_names.Given as goal

abbrev pub invariant-loop-unit : goal.invariant-loop-unit
invariant-loop-unit l = FirstThen l.a.value.table (flat_map macro_names_of (take l.unit-index l.units)) l.initial.now l.now
