use Rattle.std.proofs.Common.{◌≡◌, ◌<◌, ℕ, Some}
use Rattle.std.specs.Prelude.{slice_get}
use Rattle.template_meaning.specs.Compared.{IsAlikeAt}
use Rattle.template_plan.proofs.comparing.are_alike.Given as goal

abbrev pub invariant-loop-k : goal.invariant-loop-k
invariant-loop-k l = (j at : ℕ) → j < l.k → slice_get l.places j ≡ Some at → IsAlikeAt l.u l.v l.places j at
