use Rattle.std.proofs.Common.{◌≡◌, ◌++◌, take}
use Rattle.std.specs.Prelude.{map}
use Rattle.trim_rules.specs.JudgedLines.{judged_in}
use Rattle.trim_plan.specs.Stays.{stays_lines}
use Rattle.trim_plan.proofs.telling.push_each.Given as goal

abbrev pub invariant-loop-one : goal.invariant-loop-one
invariant-loop-one l = l.text.items ≡ l.initial.text.items ++ stays_lines l.a.value (map judged_in (take l.one-index l.judged))
