use Rattle.std.proofs.Common.{◌≡◌, ◌++◌, drop}
use Rattle.std.specs.List.{flat_map}
use Rattle.query_report.specs.Skipped.{lines_at}
use Rattle.query_report.proofs.skipped.print_skipped.Given as goal

abbrev pub invariant-loop-number : goal.invariant-loop-number
invariant-loop-number l =
    l.text.items ++ flat_map (lines_at l.t) (drop l.number-index l.number-items) ≡ flat_map (lines_at l.t) l.number-items
