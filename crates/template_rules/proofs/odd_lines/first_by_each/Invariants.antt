use Rattle.std.proofs.Common.{take}
use Rattle.template_rules.specs.OddLines.{FirstAmong}
use Rattle.template_rules.proofs.odd_lines.first_by_each.Given as goal

abbrev pub invariant-loop-line : goal.invariant-loop-line
invariant-loop-line l = FirstAmong (take l.line-index l.lines) l.from l.to l.best
