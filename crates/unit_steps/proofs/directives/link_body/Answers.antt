use Rattle.std.proofs.Common.{sym}
use Rattle.unit_steps.proofs.KeepingLemmas.{noted_in-nil}
use Rattle.unit_steps.proofs.DefiningLemmas.{uses-more, uses-end}
use Rattle.unit_steps.proofs.directives.link_body.Goals as goal

pub loop-tok-init : goal.loop-tok-init
loop-tok-init c = sym (noted_in-nil c.args.text.now)

pub loop-tok-preserved : goal.loop-tok-preserved
loop-tok-preserved c =
    uses-more c.args.text.now c.loop-tok.text c.link_use.new.text c.args.params.now c.args.body.now c.loop-tok.tok-index c.tok-item.result c.loop-tok-test.true c.tok-item.is
    c.loop-tok.invariant c.in_ok-link_use.ensures

pub returns : goal.returns
returns c = uses-end c.args.text.now c.loop-tok.text c.args.params.now c.args.body.now c.loop-tok.tok-index c.loop-tok-test.false c.loop-tok.invariant
