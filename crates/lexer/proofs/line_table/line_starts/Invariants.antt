use Rattle.std.proofs.Common.{◌≡◌, ◌+◌, ◌++◌, length}
use Rattle.lexer.specs.LineTable.{starts_from, line_starts}
use Rattle.lexer.proofs.line_table.line_starts.Given as goal

abbrev pub invariant-loop-rest : goal.invariant-loop-rest
invariant-loop-rest l =
    (l.starts.items ++ starts_from l.at l.rest ≡ line_starts l.bytes) × (l.at + length l.rest ≡ length l.bytes)

abbrev pub decreases-loop-rest : goal.decreases-loop-rest
decreases-loop-rest l = length l.rest
