use Rattle.std.proofs.Common.{take}
use Rattle.std.specs.List.{list_any}
use Rattle.unseen_names.specs.Characters.{Adds}
use Rattle.unseen_names.specs.Groups.{in_unit}
use Rattle.unseen_names.proofs.names.marks_of.Given as goal

abbrev pub invariant-loop-unit : goal.invariant-loop-unit
invariant-loop-unit l = Adds (λ p. list_any (in_unit l.group p) (take l.unit l.a.value.units)) l.initial.marks.items l.marks.items
