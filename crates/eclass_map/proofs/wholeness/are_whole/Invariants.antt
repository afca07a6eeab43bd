use Rattle.std.proofs.Common.{◌≡◌, ◌-◌, ◌≤◌, length, drop}
use Rattle.eclass_map.specs.ClassTable.{AreWhole}
use Rattle.eclass_map.specs.Wholeness.{of_tokens}
use Rattle.eclass_map.proofs.wholeness.are_whole.Given as goal

abbrev pub invariant-loop-at : goal.invariant-loop-at
invariant-loop-at l = record {
  counted : l.count ≡ length l.tok.origins;
  within : l.at ≤ l.count;
  back : AreWhole (of_tokens l.tokens) (drop l.at l.tok.origins) → AreWhole (of_tokens l.tokens) l.tok.origins;
  on : AreWhole (of_tokens l.tokens) l.tok.origins → AreWhole (of_tokens l.tokens) (drop l.at l.tok.origins);
}

abbrev pub decreases-loop-at : goal.decreases-loop-at
decreases-loop-at l = l.count - l.at
