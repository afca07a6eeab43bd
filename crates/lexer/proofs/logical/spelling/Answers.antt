use Rattle.lexer.specs.Walk.{spelled}
use Rattle.lexer.proofs.LogicalLemmas.{take-more}
use Rattle.lexer.proofs.logical.spelling.Goals as goal

pub loop-k-preserved : goal.loop-k-preserved
loop-k-preserved c =
    rw c.in_ok-push-in-Some.ensures.items
    (take-more c.loop-k.text.items (spelled c.loop-k.rest.now) (spelled c.in-Some.after.now) _ c.args.n c.loop-k.k c.in-Some.c
    c.loop-k-test.true c.in-Some.ensures.spelling c.loop-k.invariant)
