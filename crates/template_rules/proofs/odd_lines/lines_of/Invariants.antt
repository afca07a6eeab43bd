use Rattle.std.proofs.Common.{take}
use Rattle.template_rules.specs.OddLines.{AreOdd}
use Rattle.template_rules.proofs.odd_lines.lines_of.Given as goal

abbrev pub invariant-loop-p : goal.invariant-loop-p
invariant-loop-p l = AreOdd l.a.value.table (take l.p-index l.odds) l.lines.items
