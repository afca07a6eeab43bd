use Rattle.std.proofs.Common.{◌≡◌, ℕ, ◌-◌, ◌<◌, ◌≤◌, true, false, length, Some}
use Rattle.std.specs.Prelude.{slice_get}
use Rattle.cs_base.specs.Token.{Token}
use Rattle.analysis.specs.TokenSearch.{begins_by}
use Rattle.analysis.proofs.token_search.count_begun.Given as goal

abbrev pub invariant-loop-low : goal.invariant-loop-low
invariant-loop-low l = record {
  order : l.low ≤ l.high;
  within : l.high ≤ length l.toks;
  before : (k : ℕ) (t : Token) → k < l.low → slice_get l.toks k ≡ Some t → begins_by l.pos.at t ≡ true;
  behind : (k : ℕ) (t : Token) → l.high ≤ k → slice_get l.toks k ≡ Some t → begins_by l.pos.at t ≡ false;
}

abbrev pub decreases-loop-low : goal.decreases-loop-low
decreases-loop-low l = l.high - l.low
