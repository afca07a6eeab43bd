use Rattle.std.proofs.Common.{◌≡◌, ◌≤◌, length, drop}
use Rattle.list_cuts.specs.Spans.{all_rearranged}
use Rattle.list_cuts.proofs.rearranging.arrange.Given as goal

abbrev pub invariant-loop-left : goal.invariant-loop-left
invariant-loop-left l = record {
  within : l.left ≤ length l.lists;
  made : l.out.items ≡ all_rearranged l.order (drop l.left l.lists) l.bytes;
}

abbrev pub decreases-loop-left : goal.decreases-loop-left
decreases-loop-left l = l.left
