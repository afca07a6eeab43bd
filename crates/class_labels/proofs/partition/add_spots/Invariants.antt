use Rattle.std.proofs.Common.{◌≡◌, ◌+◌, ◌-◌, ◌≤◌, ◌++◌, vec_len}
use Rattle.std.specs.Vec.{vec_capacity}
use Rattle.class_labels.specs.Labels.{fresh_part}
use Rattle.class_labels.proofs.partition.add_spots.Given as goal

abbrev pub invariant-loop-offset : goal.invariant-loop-offset
invariant-loop-offset l = record {
  items : l.spots.items ≡ l.initial.spots.items ++ fresh_part l.class l.offset;
  kept : vec_capacity l.initial.spots ≤ vec_capacity l.spots;
  room : vec_len l.spots + (l.len - l.offset) ≤ vec_capacity l.spots;
}
