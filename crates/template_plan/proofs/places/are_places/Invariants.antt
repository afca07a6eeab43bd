use Rattle.std.proofs.Common.{◌≡◌, ◌<◌, ℕ, Some, slice_get}
use Rattle.template_plan.proofs.places.are_places.Given as goal

abbrev pub invariant-loop-p : goal.invariant-loop-p
invariant-loop-p l = (q k : ℕ) → q < l.p → slice_get l.toks q ≡ Some k → slice_get l.places k ≡ Some q
