use Rattle.std.proofs.Common.{take}
use Rattle.std.specs.List.{flat_map}
use Rattle.offences.specs.First.{FirstThen}
use Rattle.template_rules.proofs.UnitLemmas.{marks_of}
use Rattle.template_rules.proofs.list_marks.at_marks.Given as goal

abbrev pub invariant-loop-unit : goal.invariant-loop-unit
invariant-loop-unit l = FirstThen l.a.value.table (flat_map (marks_of l.a.value l.count) (take l.unit-index l.units)) l.initial.now l.now
