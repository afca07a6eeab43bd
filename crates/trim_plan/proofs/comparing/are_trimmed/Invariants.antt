use Rattle.std.proofs.Common.{◌≡◌, ◌<◌, ℕ, Some}
use Rattle.std.specs.Prelude.{slice_get}
use Rattle.analysis.specs.Analysis.{UnitAnalysis}
use Rattle.trim_plan.specs.Left.{is_gone}
use Rattle.trim_plan.specs.Places.{IsCompared}
use Rattle.trim_plan.proofs.comparing.are_trimmed.Given as goal

abbrev pub invariant-loop-n : goal.invariant-loop-n
invariant-loop-n l =
    (j : ℕ) (u v : UnitAnalysis) → j < l.n → slice_get l.a.value.units j ≡ Some u → slice_get l.b.value.units j ≡ Some v → IsCompared (is_gone l.lines u.text) u v
