use Rattle.std.proofs.Common.{below_more, arith}
use Rattle.macro_plan.specs.Edited.{StaysAbsent}
use Rattle.macro_plan.proofs.comparing.stay_absent.Goals as goal

pub loop-number-preserved : goal.loop-number-preserved
loop-number-preserved c =
    below_more (StaysAbsent c.args.a.now.value.table c.args.edits.now c.args.now.now.table) c.loop-number.number c.loop-number.invariant
    (c.stays_absent.ensures c.if-not-stays_absent.false)

pub returns : goal.returns
returns c = λ is number within. c.loop-number.invariant number (omega (arith, within))
