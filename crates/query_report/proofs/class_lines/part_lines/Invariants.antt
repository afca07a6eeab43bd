use Rattle.std.proofs.Common.{◌≡◌, ◌++◌, drop}
use Rattle.analysis.specs.ClassReport.{part_lines}
use Rattle.query_report.proofs.class_lines.part_lines.Given as goal

abbrev pub invariant-loop-part : goal.invariant-loop-part
invariant-loop-part l = l.text.items ++ part_lines l.a.value (drop l.part-index l.parts) ≡ part_lines l.a.value l.parts
