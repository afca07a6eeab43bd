use Rattle.macro_plan.specs.Edited.{StayAbsent}
use Rattle.macro_plan.proofs.comparing.stay_absent.Given as goal

abbrev pub invariant-loop-number : goal.invariant-loop-number
invariant-loop-number l = StayAbsent l.a.value.table l.edits l.now.table l.number
