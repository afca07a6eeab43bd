use Rattle.std.proofs.Common.{◌≡◌, take}
use Rattle.std.specs.List.{fold}
use Rattle.query_report.specs.Marks.{marked}
use Rattle.query_report.proofs.marks.mark_unit.Given as goal

abbrev pub invariant-loop-r : goal.invariant-loop-r
invariant-loop-r l = l.marks.items ≡ fold marked l.initial.marks.items (take l.r-index l.reached)
