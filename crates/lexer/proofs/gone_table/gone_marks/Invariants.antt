use Rattle.std.proofs.Common.{◌≡◌, ◌+◌, ◌++◌, ◌≤◌, length}
use Rattle.lexer.specs.GoneTable.{marks_from, marks_of}
use Rattle.lexer.proofs.gone_table.gone_marks.Given as goal

abbrev pub invariant-loop-rest : goal.invariant-loop-rest
invariant-loop-rest l =
    (l.marks.items ++ marks_from l.skip l.at l.rest ≡ marks_of l.bytes)
    × (l.at + length l.rest ≤ length l.bytes)
    × (l.skip ≤ length l.rest)

abbrev pub decreases-loop-rest : goal.decreases-loop-rest
decreases-loop-rest l = length l.rest
