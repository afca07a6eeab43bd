use Rattle.std.proofs.Common.{arith}
use Rattle.lexer.proofs.LogicalLemmas.{Passes-more, Passes-none, Passes-all}
use Rattle.lexer.proofs.logical.behind.Goals as goal

pub loop-k-init : goal.loop-k-init
loop-k-init c = Passes-none c.args.bytes.now

pub returns-in-None : goal.returns-in-None
returns-in-None c =
    Passes-all c.loop-k.k c.args.n c.args.bytes.now c.loop-k.rest.now (omega arith) c.loop-k.invariant c.in-None.ensures.behind

pub loop-k-preserved : goal.loop-k-preserved
loop-k-preserved c =
    Passes-more c.loop-k.k 1 c.args.bytes.now c.loop-k.rest.now c.in-Some.after.now c.loop-k.invariant c.in-Some.ensures.behind
