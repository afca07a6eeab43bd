use Rattle.std.proofs.Common.{◌≡◌}
use Rattle.class_labels.specs.Links.{with_part}
use Rattle.class_labels.proofs.partition.write_part.Given as goal

abbrev pub invariant-loop-offset : goal.invariant-loop-offset
invariant-loop-offset l = l.spots ≡ with_part l.class l.offset l.x l.initial.spots
