use Rattle.std.proofs.Common.{◌≡◌, true, ◌+◌, ◌<◌, ℕ, get_or}
use Rattle.template_rules.specs.declared.odd_lines.OddLine.{OddLine}
use Rattle.template_rules.specs.OddLines.{comes_before}
use Rattle.template_rules.proofs.odd_lines.are_in_order.Given as goal

abbrev pub invariant-loop-k : goal.invariant-loop-k
invariant-loop-k l = (k : ℕ) (d : OddLine) → k + 1 < l.k → comes_before (get_or l.lines k d) (get_or l.lines (k + 1) d) ≡ true
