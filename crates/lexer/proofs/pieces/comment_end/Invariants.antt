use Rattle.std.proofs.Common.{◌≡◌, ◌+◌, ◌≤◌, length}
use Rattle.lexer.specs.Walk.{spelled}
use Rattle.lexer.specs.Front.{more_by}
use Rattle.lexer.specs.Tokens.{comment_end}
use Rattle.lexer.proofs.pieces.comment_end.Given as goal

abbrev pub invariant-loop-c : goal.invariant-loop-c
invariant-loop-c l =
    (more_by l.count (comment_end (spelled l.rest)) ≡ comment_end (spelled l.text))
    × (l.count + length l.rest ≤ length l.text)

abbrev pub decreases-loop-c : goal.decreases-loop-c
decreases-loop-c l = length l.rest
