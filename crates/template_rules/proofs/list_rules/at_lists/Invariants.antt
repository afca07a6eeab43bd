use Rattle.std.proofs.Common.{take}
use Rattle.std.specs.List.{flat_map}
use Rattle.offences.specs.First.{FirstThen}
use Rattle.template_rules.specs.LineOffences.{odd_positions}
use Rattle.template_rules.proofs.UnitLemmas.{offences_at}
use Rattle.template_rules.proofs.list_rules.at_lists.Given as goal

abbrev pub invariant-loop-unit : goal.invariant-loop-unit
invariant-loop-unit l =
    FirstThen l.functions.analysis.value.table
    (flat_map (offences_at l.functions (odd_positions l.functions.analysis.value.table)) (take l.unit-index l.units)) l.initial.now l.now
