use Rattle.std.proofs.Common.{take}
use Rattle.class_marks.specs.Keeping.{Keeps}
use Rattle.unseen_names.specs.Reach.{ReachesStart}
use Rattle.unseen_names.proofs.reach.reached_by.Given as goal

abbrev pub invariant-loop-place : goal.invariant-loop-place
invariant-loop-place l = Keeps (ReachesStart l.a.value l.part) (take l.place-index l.places) l.out.items
