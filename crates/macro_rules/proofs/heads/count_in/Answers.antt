use Rattle.std.proofs.Common.{None}
use Rattle.macro_rules.proofs.CountLemmas.{soonest-none, soonest-next_or}
use Rattle.macro_rules.proofs.heads.count_in.Goals as goal

pub loop-head-init : goal.loop-head-init
loop-head-init c = soonest-none c.args.a.now.value.table None

pub loop-head-preserved : goal.loop-head-preserved
loop-head-preserved c =
    soonest-next_or c.args.a.now.value.table c.args.heads.now c.loop-head.head-index _ None c.loop-head.best c.sooner.result
    c.loop-head-test.true c.loop-head.invariant c.sooner.ensures
