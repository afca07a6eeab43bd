use Rattle.std.proofs.Common.{take}
use Rattle.std.specs.List.{flat_map}
use Rattle.analysis.specs.Marking.{MarksTokens}
use Rattle.analysis.specs.Naming.{names_reached}
use Rattle.analysis.proofs.processed.mark_reached.Given as goal

abbrev pub invariant-loop-i : goal.invariant-loop-i
invariant-loop-i l = MarksTokens l.a.table (flat_map (names_reached l.a.table) (take l.i l.reached)) l.fn.marks.items l.marks.items
