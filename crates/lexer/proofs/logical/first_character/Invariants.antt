use Rattle.std.proofs.Common.{length}
use Rattle.lexer.specs.Walk.{Passes}
use Rattle.lexer.proofs.logical.first_character.Given as goal

abbrev pub invariant-loop-rest : goal.invariant-loop-rest
invariant-loop-rest l = Passes 0 l.bytes l.rest

abbrev pub decreases-loop-rest : goal.decreases-loop-rest
decreases-loop-rest l = length l.rest
