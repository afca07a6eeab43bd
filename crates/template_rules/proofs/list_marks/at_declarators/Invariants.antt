use Rattle.std.proofs.Common.{take}
use Rattle.std.specs.List.{flat_map}
use Rattle.offences.specs.First.{FirstThen}
use Rattle.template_rules.specs.Marks.{declarator_marks}
use Rattle.template_rules.proofs.list_marks.at_declarators.Given as goal

abbrev pub invariant-loop-list : goal.invariant-loop-list
invariant-loop-list l = FirstThen l.a.value.table (flat_map (declarator_marks l.unit.class.members l.a.value l.count l.unit.text.now.toks l.unit.text.now.reached l.unit.bound.now.names l.unit.lists) (take l.list-index l.all)) l.initial.now l.now
