use Rattle.std.proofs.Common.{◌≡◌, ◌+◌, ◌≤◌, length}
use Rattle.lexer.specs.Walk.{spelled}
use Rattle.lexer.specs.Front.{count_following}
use Rattle.lexer.proofs.front.count_following.Given as goal

abbrev pub invariant-loop-c : goal.invariant-loop-c
invariant-loop-c l =
    (l.count + count_following l.last (spelled l.rest) ≡ count_following l.first (spelled l.after))
    × (l.count + length l.rest ≤ length l.after)

abbrev pub decreases-loop-c : goal.decreases-loop-c
decreases-loop-c l = length l.rest
