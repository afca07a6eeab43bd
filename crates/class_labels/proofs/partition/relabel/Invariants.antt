use Rattle.std.proofs.Common.{◌≡◌, ℕ, ◌+◌, ◌≤◌, length}
use Rattle.class_labels.specs.Table.{In}
use Rattle.class_labels.specs.Links.{members, with_parts}
use Rattle.class_labels.proofs.partition.relabel.Given as goal

abbrev pub invariant-loop-left : goal.invariant-loop-left
invariant-loop-left g l = record {
  rest : with_parts l.class 0 l.row.len (members l.left l.nexts l.x) l.spots ≡ with_parts l.class 0 l.row.len (members l.row.size l.nexts l.row.first) l.initial.spots;
  ticks : l.steps + l.left ≡ l.initial.steps + l.row.size;
  within : (x : ℕ) → In x (members l.left l.nexts l.x) → x + l.row.len ≤ length l.spots;
}

abbrev pub decreases-loop-left : goal.decreases-loop-left
decreases-loop-left g l = l.left
