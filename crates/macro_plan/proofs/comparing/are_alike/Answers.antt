use Rattle.std.proofs.Common.{arith}
use Rattle.macro_plan.proofs.AlikeLemmas.{alike_next, alike_all}
use Rattle.macro_plan.proofs.comparing.are_alike.Goals as goal

pub loop-k-preserved : goal.loop-k-preserved
loop-k-preserved c =
    alike_next c.args.toks.now c.args.others.now c.loop-k.k c.index-toks-k.result c.index-others-k.result (omega arith) (omega arith)
    c.index-toks-k.is c.index-others-k.is c.loop-k.invariant (c.is_alike.ensures c.if-not-is_alike.false)

pub returns : goal.returns
returns c = λ is. alike_all c.args.toks.now c.args.others.now c.loop-k.k (omega arith) (omega arith) c.loop-k.invariant
