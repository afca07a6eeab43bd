use Rattle.std.proofs.Common.{◌≡◌, length}
use Rattle.lexer.specs.Walk.{spelled}
use Rattle.lexer.specs.Front.{begins_with}
use Rattle.lexer.proofs.logical.begins_with.Given as goal

abbrev pub invariant-loop-letters : goal.invariant-loop-letters
invariant-loop-letters l = begins_with l.letters (spelled l.rest) ≡ begins_with l.word (spelled l.bytes)

abbrev pub decreases-loop-letters : goal.decreases-loop-letters
decreases-loop-letters l = length l.letters
