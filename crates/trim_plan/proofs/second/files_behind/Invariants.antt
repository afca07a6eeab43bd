use Rattle.std.specs.Prelude.{All}
use Rattle.trim_plan.specs.Second.{IsFileOf}
use Rattle.trim_plan.proofs.second.files_behind.Given as goal

abbrev pub invariant-loop-number : goal.invariant-loop-number
invariant-loop-number l = All (IsFileOf l.lines l.a.value.table) l.files.files
