use Rattle.std.proofs.Common.{take}
use Rattle.std.specs.List.{flat_map}
use Rattle.analysis.specs.Analysis.{UnitAnalysis}
use Rattle.analysis.specs.Marking.{MarksTokens}
use Rattle.analysis.specs.Naming.{names_reached}
use Rattle.analysis.proofs.processed.mark_units.Given as goal

abbrev pub invariant-loop-k : goal.invariant-loop-k
invariant-loop-k l =
    MarksTokens l.a.table (flat_map (λ (u : UnitAnalysis). flat_map (names_reached l.a.table) u.text.reached) (take l.k l.a.units))
    l.fn.marks.items l.marks.items
