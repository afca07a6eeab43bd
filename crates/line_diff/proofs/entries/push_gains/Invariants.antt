use Rattle.std.proofs.Common.{◌≡◌, ◌++◌, map}
use Rattle.std.specs.Prelude.{slice_range}
use Rattle.std.specs.List.{flat_map}
use Rattle.line_diff.specs.FileText.{entry_text}
use Rattle.line_diff.specs.Hunks.{gets}
use Rattle.line_diff.specs.Pairs.{texts_of}
use Rattle.line_diff.proofs.entries.push_gains.Given as goal

abbrev pub invariant-loop-j : goal.invariant-loop-j
invariant-loop-j l = l.text.items ≡ l.initial.text.items ++ flat_map entry_text (map gets (slice_range (texts_of l.news) l.from l.j))
