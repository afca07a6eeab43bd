use Rattle.std.proofs.Common.{◌≡◌, ◌<◌, ℕ, Some}
use Rattle.std.specs.Prelude.{slice_get}
use Rattle.analysis.specs.Analysis.{UnitAnalysis}
use Rattle.template_meaning.specs.Compared.{IsCompared}
use Rattle.template_plan.proofs.comparing.are_units.Given as goal

abbrev pub invariant-loop-n : goal.invariant-loop-n
invariant-loop-n l =
    (j : ℕ) (u v : UnitAnalysis) → j < l.n → slice_get l.functions.analysis.value.units j ≡ Some u → slice_get l.b.value.units j ≡ Some v
    → IsCompared l.functions.members l.order u v
