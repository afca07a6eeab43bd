use Rattle.std.proofs.Common.{◌≡◌, ℕ, ◌<◌, false}
use Rattle.unused_names.specs.Unneeded.{counts_at}
use Rattle.unused_names.proofs.counting.any_counts.Given as goal

abbrev pub invariant-loop-i : goal.invariant-loop-i
invariant-loop-i l = (j : ℕ) → l.k < j → j < l.i → counts_at l.events j ≡ false
