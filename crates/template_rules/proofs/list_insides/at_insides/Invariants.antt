use Rattle.std.proofs.Common.{take}
use Rattle.std.specs.List.{flat_map}
use Rattle.offences.specs.First.{FirstThen}
use Rattle.template_rules.proofs.UnitLemmas.{insides_of}
use Rattle.template_rules.proofs.list_insides.at_insides.Given as goal

abbrev pub invariant-loop-unit : goal.invariant-loop-unit
invariant-loop-unit l = FirstThen l.a.value.table (flat_map insides_of (take l.unit-index l.units)) l.initial.now l.now
