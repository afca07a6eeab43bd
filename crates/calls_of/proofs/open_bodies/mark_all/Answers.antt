use Rattle.std.proofs.Common.{arith}
use Rattle.calls_of.proofs.OpenLemmas.{opened-end}
use Rattle.calls_of.proofs.open_bodies.mark_all.Goals as goal

pub returns-clause-opened : goal.returns-clause-opened
returns-clause-opened c =
    opened-end _ c.args.body.from c.args.body.to c.loop-before.before _ _ (omega (arith, c.loop-before-test.false)) c.loop-before.invariant.1 c.loop-before.invariant.2
