use Rattle.std.proofs.Common.{take}
use Rattle.std.specs.List.{flat_map}
use Rattle.offences.specs.First.{FirstThen}
use Rattle.template_rules.proofs.UnitLemmas.{names_of}
use Rattle.template_rules.proofs.names.at_names.Given as goal

abbrev pub invariant-loop-unit : goal.invariant-loop-unit
invariant-loop-unit l = FirstThen l.a.value.table (flat_map names_of (take l.unit-index l.units)) l.initial.now l.now
