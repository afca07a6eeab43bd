use Rattle.trim_plan.specs.Places.{has_path, AreAbsent}
use Rattle.trim_plan.proofs.comparing.Absent.of.Given as goal

abbrev pub invariant-loop-number : goal.invariant-loop-number
invariant-loop-number l = AreAbsent l.a.value.table (has_path l.absent.paths)
