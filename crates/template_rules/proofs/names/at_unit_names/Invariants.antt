use Rattle.std.proofs.Common.{take}
use Rattle.std.specs.List.{flat_map}
use Rattle.offences.specs.First.{FirstThen}
use Rattle.template_rules.specs.NameOffences.{name_offences}
use Rattle.template_rules.proofs.names.at_unit_names.Given as goal

abbrev pub invariant-loop-name : goal.invariant-loop-name
invariant-loop-name l =
    FirstThen l.a.value.table (flat_map (name_offences l.unit.class.members l.unit.text.now.toks l.unit.bound.now.names l.unit.bound.now.calls l.unit.lists) (take l.name-index l.names)) l.initial.now l.now
