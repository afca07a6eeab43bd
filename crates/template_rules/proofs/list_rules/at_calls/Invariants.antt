use Rattle.std.proofs.Common.{take}
use Rattle.std.specs.List.{flat_map}
use Rattle.offences.specs.First.{FirstThen}
use Rattle.template_rules.specs.Asking.{AreWithin, IsKnown}
use Rattle.template_rules.specs.LineOffences.{odd_positions}
use Rattle.template_rules.specs.Offences.{call_offences}
use Rattle.template_rules.proofs.list_rules.at_calls.Given as goal

abbrev pub invariant-loop-list : goal.invariant-loop-list
invariant-loop-list l =
    FirstThen l.functions.analysis.value.table
    (flat_map (call_offences l.functions.members l.functions.analysis.value (odd_positions l.functions.analysis.value.table) l.unit.text.now l.unit.bound.now l.ends) (take l.list-index l.all))
    l.initial.now l.now
    × AreWithin l.functions.analysis.value.units l.near × IsKnown l.functions l.unit.text.now.toks l.known
