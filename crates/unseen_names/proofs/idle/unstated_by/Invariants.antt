use Rattle.std.proofs.Common.{take}
use Rattle.class_marks.specs.Keeping.{Keeps}
use Rattle.unseen_names.specs.Unseen.{IsUnstated}
use Rattle.unseen_names.proofs.idle.unstated_by.Given as goal

abbrev pub invariant-loop-place : goal.invariant-loop-place
invariant-loop-place l = Keeps (IsUnstated l.a.value) (take l.place-index l.places) l.out.items
