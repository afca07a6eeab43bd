use Rattle.std.proofs.Common.{◌≡◌, ◌+◌, ◌≤◌, length}
use Rattle.std.specs.List.{prefix_len}
use Rattle.lexer.specs.Characters.{is_word}
use Rattle.lexer.specs.Walk.{spelled}
use Rattle.lexer.proofs.front.count_words.Given as goal

abbrev pub invariant-loop-c : goal.invariant-loop-c
invariant-loop-c l =
    (l.count + prefix_len is_word (spelled l.rest) ≡ prefix_len is_word (spelled l.after))
    × (l.count + length l.rest ≤ length l.after)

abbrev pub decreases-loop-c : goal.decreases-loop-c
decreases-loop-c l = length l.rest
