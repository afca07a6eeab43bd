use Rattle.std.proofs.Common.{◌≡◌, ℕ, ◌-◌, ◌<◌, ◌≤◌, true, false, length, Some}
use Rattle.std.specs.Prelude.{slice_get}
use Rattle.eclass_map.specs.declared.token_list.Added.{Added}
use Rattle.eclass_map.specs.Positions.{begins_by}
use Rattle.eclass_map.proofs.token_list.count_begun.Given as goal

abbrev pub invariant-loop-low : goal.invariant-loop-low
invariant-loop-low l = record {
  within_low : l.low ≤ length l.tokens;
  within : l.high ≤ length l.tokens;
  before : (k : ℕ) (r : Added) → k < l.low → slice_get l.tokens k ≡ Some r → begins_by r l.pos ≡ true;
  behind : (k : ℕ) (r : Added) → l.high ≤ k → slice_get l.tokens k ≡ Some r → begins_by r l.pos ≡ false;
}

abbrev pub decreases-loop-low : goal.decreases-loop-low
decreases-loop-low l = l.high - l.low
