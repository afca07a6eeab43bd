use Rattle.std.proofs.Common.{◌≡◌, ◌-◌, ◌≤◌, length}
use Rattle.std.specs.Prelude.{slice_get}
use Rattle.eclass_map.specs.ClassTable.{members_of}
use Rattle.eclass_map.proofs.class_table.Classes.member_count.Given as goal

abbrev pub invariant-loop-next : goal.invariant-loop-next
invariant-loop-next l = (l.next ≡ slice_get (members_of l.self l.class) l.count) × (l.count ≤ length (members_of l.self l.class))

abbrev pub decreases-loop-next : goal.decreases-loop-next
decreases-loop-next l = length (members_of l.self l.class) - l.count
