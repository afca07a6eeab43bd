use Rattle.std.proofs.Common.{◌<◌, All, arith, subst}
use Rattle.std.proofs.lemmas.List.{take_more, take_all}
use Rattle.calls_of.proofs.OpenLemmas.{below-more}
use Rattle.calls_of.proofs.open_bodies.numbers_of.Goals as goal

pub loop-body-preserved : goal.loop-body-preserved
loop-body-preserved c =
    below-more _ _ _ c.loop-body.numbers c.longer-numbers.result (take_more c.args.functions.now c.loop-body.body-index _ (omega (arith, c.loop-body-test.true)))
    c.loop-body.invariant c.longer-numbers.ensures.all c.longer-numbers.ensures.own

pub returns : goal.returns
returns c =
    subst (All (λ r. r.to < c.loop-body.numbers)) (take_all c.loop-body.body-index c.args.functions.now (omega (arith, c.loop-body-test.false))) c.loop-body.invariant
