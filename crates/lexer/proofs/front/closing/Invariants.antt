use Rattle.std.proofs.Common.{◌≡◌, ◌+◌, ◌≤◌, false, length}
use Rattle.lexer.specs.Walk.{spelled}
use Rattle.lexer.specs.Front.{closing, more_by}
use Rattle.lexer.proofs.front.closing.Given as goal

abbrev pub invariant-loop-c : goal.invariant-loop-c
invariant-loop-c l =
    (more_by l.count (closing l.quote l.escaped (spelled l.rest)) ≡ closing l.quote false (spelled l.after))
    × (l.count + length l.rest ≤ length l.after)

abbrev pub decreases-loop-c : goal.decreases-loop-c
decreases-loop-c l = length l.rest
