use Rattle.lexer.specs.Walk.{Passes}
use Rattle.lexer.proofs.logical.behind.Given as goal

abbrev pub invariant-loop-k : goal.invariant-loop-k
invariant-loop-k l = Passes l.k l.bytes l.rest
