use Rattle.std.proofs.Common.{refl}
use Rattle.macro_rules.proofs.WalkLemmas.{first_next_or, first_all}
use Rattle.macro_rules.proofs.first.first_of.Goals as goal

pub loop-offence-init : goal.loop-offence-init
loop-offence-init c = refl

pub loop-offence-preserved : goal.loop-offence-preserved
loop-offence-preserved c =
    first_next_or c.args.a.now.value.table c.args.offences.now c.loop-offence.offence-index _ c.loop-offence.first c.first_with-first.result
    c.loop-offence-test.true c.loop-offence.invariant c.first_with-first.ensures

pub returns : goal.returns
returns c =
    first_all c.args.a.now.value.table c.args.offences.now c.loop-offence.offence-index c.loop-offence.first c.loop-offence-test.false c.loop-offence.invariant
