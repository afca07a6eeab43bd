use Rattle.std.proofs.Common.{take}
use Rattle.class_marks.specs.Keeping.{Keeps}
use Rattle.unseen_names.specs.Unseen.{IsOther}
use Rattle.unseen_names.proofs.others.others.Given as goal

abbrev pub invariant-loop-place : goal.invariant-loop-place
invariant-loop-place l = Keeps (IsOther l.a.value l.part) (take l.place-index l.places) l.out.items
