use Rattle.std.proofs.Common.{◌≡◌, ◌+◌, ◌≤◌, length}
use Rattle.lexer.specs.Walk.{spelled}
use Rattle.lexer.specs.Front.{header_closing, more_by}
use Rattle.lexer.proofs.front.header_closing.Given as goal

abbrev pub invariant-loop-c : goal.invariant-loop-c
invariant-loop-c l =
    (more_by l.count (header_closing l.close (spelled l.rest)) ≡ header_closing l.close (spelled l.after))
    × (l.count + length l.rest ≤ length l.after)

abbrev pub decreases-loop-c : goal.decreases-loop-c
decreases-loop-c l = length l.rest
