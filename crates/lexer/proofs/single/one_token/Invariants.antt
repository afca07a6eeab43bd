use Rattle.std.proofs.Common.{length}
use Rattle.lexer.specs.Lone.{IsLone}
use Rattle.lexer.specs.Walk.{spelled}
use Rattle.lexer.proofs.SingleLemmas.{Counted}
use Rattle.lexer.proofs.single.one_token.Given as goal

abbrev pub invariant-loop-here : goal.invariant-loop-here
invariant-loop-here l =
    (Counted l.text l.held l.front l.rest)
    × IsLone l.lone (spelled l.rest)

abbrev pub decreases-loop-here : goal.decreases-loop-here
decreases-loop-here l = length l.rest
