use Rattle.std.proofs.Common.{◌≡◌, ◌+◌, ◌≤◌, length}
use Rattle.std.specs.List.{prefix_len}
use Rattle.lexer.specs.Characters.{is_on_line}
use Rattle.lexer.specs.Walk.{spelled}
use Rattle.lexer.proofs.pieces.count_on_line.Given as goal

abbrev pub invariant-loop-c : goal.invariant-loop-c
invariant-loop-c l =
    (l.count + prefix_len is_on_line (spelled l.rest) ≡ prefix_len is_on_line (spelled l.text))
    × (l.count + length l.rest ≤ length l.text)

abbrev pub decreases-loop-c : goal.decreases-loop-c
decreases-loop-c l = length l.rest
