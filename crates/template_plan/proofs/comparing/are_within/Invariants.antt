use Rattle.std.proofs.Common.{◌≡◌, ◌<◌, ℕ, Some, slice_get}
use Rattle.analysis.specs.Below.scope_bind.declared.bound.Name.{Name}
use Rattle.template_plan.proofs.comparing.are_within.Given as goal

abbrev pub invariant-loop-k : goal.invariant-loop-k
invariant-loop-k l = (j : ℕ) (n : Name) → j < l.k → slice_get l.names j ≡ Some n → (n.index < l.count) × (n.entity < l.count)
