use Rattle.std.proofs.Common.{◌≡◌, ◌++◌, drop}
use Rattle.query_report.specs.Queries.{lines_of}
use Rattle.query_report.proofs.list_lines.place_lines.Given as goal

abbrev pub invariant-loop-at : goal.invariant-loop-at
invariant-loop-at l = l.text.items ++ lines_of l.a.value (drop l.at-index l.places) ≡ lines_of l.a.value l.places
