use Rattle.std.proofs.Common.{ℕ, ◌≤◌, ◌<◌}
use Rattle.unused_names.specs.Spans.{ReachesOut}
use Rattle.unused_names.proofs.spans.any_reaches_out.Given as goal

abbrev pub invariant-loop-k : goal.invariant-loop-k
invariant-loop-k l = (j : ℕ) → l.from ≤ j → j < l.k → ReachesOut l.bound.names l.count l.from l.to j → ⊥
