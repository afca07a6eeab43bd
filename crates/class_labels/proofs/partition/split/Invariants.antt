use Rattle.std.proofs.Common.{◌≡◌, ℕ, ◌-◌, get_or}
use Rattle.class_labels.specs.Table.{In}
use Rattle.class_labels.specs.Links.{members, with_parts, with_links}
use Rattle.class_labels.proofs.partition.split.Given as goal

abbrev pub invariant-loop-left : goal.invariant-loop-left
invariant-loop-left l = record {
  labels : with_parts l.class l.at (l.row.len - l.at) (members l.left l.initial.nexts l.x) l.spots ≡ with_parts l.class l.at (l.row.len - l.at) (members l.row.size l.initial.nexts l.row.first) l.initial.spots;
  links : with_links l.at (members l.left l.initial.nexts l.x) l.nexts ≡ with_links l.at (members l.row.size l.initial.nexts l.row.first) l.initial.nexts;
  among : (x : ℕ) → In x (members l.left l.initial.nexts l.x) → In x (members l.row.size l.initial.nexts l.row.first);
  kept : (x : ℕ) → In x (members l.row.size l.initial.nexts l.row.first) → get_or l.nexts x 0 ≡ get_or l.initial.nexts x 0;
}

abbrev pub decreases-loop-left : goal.decreases-loop-left
decreases-loop-left l = l.left
