use Rattle.std.proofs.Common.{◌<◌, ℕ, Bool}
use Rattle.trim_plan.specs.Places.{IsAlike, IsLeftOf}
use Rattle.trim_plan.proofs.comparing.are_alike.Given as goal

abbrev pub invariant-loop-k : goal.invariant-loop-k
invariant-loop-k l = (gone : ℕ → Bool) (n j : ℕ) → IsLeftOf gone n l.left → j < l.k → IsAlike gone l.u l.v j
