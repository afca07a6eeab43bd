use Rattle.std.proofs.Common.{◌<◌, ◌≤◌}
use Rattle.analysis.specs.Marking.{MarksNames}
use Rattle.analysis.proofs.marks.mark_names.Given as goal

abbrev pub invariant-loop-k : goal.invariant-loop-k
invariant-loop-k l = record {
  marks : MarksNames l.file l.toks l.from l.k l.initial.marks.items l.marks.items;
  end : l.from < l.k → l.k ≤ l.to;
}
