use Rattle.std.proofs.Common.{◌<◌, ℕ}
use Rattle.template_meaning.specs.Compared.{AreNumbered}
use Rattle.template_plan.proofs.comparing.are_files.Given as goal

abbrev pub invariant-loop-number : goal.invariant-loop-number
invariant-loop-number l = (k : ℕ) → k < l.number → AreNumbered l.a.value.table l.b.value.table k
