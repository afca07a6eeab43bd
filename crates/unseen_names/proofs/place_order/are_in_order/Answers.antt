use Rattle.std.proofs.Common.{arith}
use Rattle.analysis.proofs.ListingLemmas.{in_order, in_order_more}
use Rattle.unseen_names.proofs.place_order.are_in_order.Goals as goal

pub loop-i-preserved : goal.loop-i-preserved
loop-i-preserved c =
    in_order_more c.args.a.now.value c.args.parts.now c.loop-i.i _ _ c.loop-i.auto.i c.loop-i-test.true c.loop-i.invariant c.if-not-comes_before.ensures

pub returns : goal.returns
returns c = in_order c.args.a.now.value c.args.parts.now c.loop-i.i c.loop-i.invariant (omega arith)
