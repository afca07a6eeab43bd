use Rattle.std.proofs.Common.{ℕ, ◌<◌}
use Rattle.unused_names.specs.LastUses.{MeansBehind}
use Rattle.unused_names.proofs.last_uses.any_means_behind.Given as goal

abbrev pub invariant-loop-i : goal.invariant-loop-i
invariant-loop-i l = (j : ℕ) → l.k < j → j < l.i → MeansBehind l.events j l.end → ⊥
