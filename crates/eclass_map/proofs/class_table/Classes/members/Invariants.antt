use Rattle.std.proofs.Common.{◌≡◌, ◌-◌, length, map, take}
use Rattle.std.specs.Prelude.{slice_get}
use Rattle.class_labels.specs.Labels.{walk_at}
use Rattle.eclass_map.specs.ClassTable.{part_with}
use Rattle.eclass_map.proofs.class_table.Classes.members.Given as goal

abbrev pub invariant-loop-next : goal.invariant-loop-next
invariant-loop-next l =
    (l.parts.items ≡ map (part_with l.self l.class) (take (length l.parts.items) (walk_at l.self.labels l.class)))
    × (l.next ≡ slice_get (walk_at l.self.labels l.class) (length l.parts.items))

abbrev pub decreases-loop-next : goal.decreases-loop-next
decreases-loop-next l = length (walk_at l.self.labels l.class) - length l.parts.items
