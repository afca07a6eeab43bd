use Rattle.std.proofs.Common.{◌≡◌, take}
use Rattle.std.specs.List.{fold}
use Rattle.query_report.specs.Marks.{marked_by}
use Rattle.query_report.proofs.marks.mark_units.Given as goal

abbrev pub invariant-loop-before : goal.invariant-loop-before
invariant-loop-before l = l.marks.items ≡ fold marked_by l.initial.marks.items (take l.before l.t.texts)
