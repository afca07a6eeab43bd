use Rattle.std.proofs.Common.{◌≡◌, ◌++◌, drop}
use Rattle.std.specs.List.{flat_map}
use Rattle.query_report.specs.Skipped.{sequences, span_line, file_lines}
use Rattle.query_report.specs.Marks.{is_marked}
use Rattle.query_report.proofs.spans.push_file.Given as goal

abbrev pub invariant-loop-k : goal.invariant-loop-k
invariant-loop-k l =
    l.text.items ++ flat_map (span_line l.path) (sequences (is_marked l.marks l.file) l.k l.before (drop l.k l.items))
    ≡ l.initial.text.items ++ file_lines l.path (is_marked l.marks l.file) l.items
