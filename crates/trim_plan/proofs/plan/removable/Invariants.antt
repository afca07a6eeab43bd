use Rattle.std.proofs.Common.{◌≡◌, take}
use Rattle.std.specs.Prelude.{map}
use Rattle.trim_rules.specs.JudgedLines.{judged_in}
use Rattle.trim_rules.specs.Staying.{removable}
use Rattle.trim_plan.proofs.plan.removable.Given as goal

abbrev pub invariant-loop-one : goal.invariant-loop-one
invariant-loop-one l = l.lines.items ≡ removable (map judged_in (take l.one-index l.judged))
