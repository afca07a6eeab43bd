use Rattle.std.proofs.Common.{◌≡◌, ◌+◌, ◌-◌, ◌≤◌, ◌++◌, replicate, vec_len}
use Rattle.std.specs.Vec.{vec_capacity}
use Rattle.class_labels.proofs.partition.add_links.Given as goal

abbrev pub invariant-loop-offset : goal.invariant-loop-offset
invariant-loop-offset l = record {
  items : l.nexts.items ≡ l.initial.nexts.items ++ replicate l._offset l.next;
  kept : vec_capacity l.initial.nexts ≤ vec_capacity l.nexts;
  room : vec_len l.nexts + (l.len - l._offset) ≤ vec_capacity l.nexts;
}
