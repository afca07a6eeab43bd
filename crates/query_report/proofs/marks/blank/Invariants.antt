use Rattle.std.proofs.Common.{◌≡◌, length}
use Rattle.query_report.specs.Marks.{AreBlank}
use Rattle.query_report.proofs.marks.blank.Given as goal

abbrev pub invariant-loop-number : goal.invariant-loop-number
invariant-loop-number l = (length l.marks.items ≡ l.number) × AreBlank l.t.table l.marks.items
