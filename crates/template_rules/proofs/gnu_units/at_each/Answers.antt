use Rattle.template_rules.specs.GnuOffences.{told_place}
use Rattle.offences.proofs.FirstLemmas.{then_none, then_next_or, then_all}
use Rattle.template_rules.proofs.gnu_units.at_each.Goals as goal

pub loop-told-init : goal.loop-told-init
loop-told-init c = then_none c.args.a.now.value.table c.args.first

pub loop-told-preserved : goal.loop-told-preserved
loop-told-preserved c =
    then_next_or c.args.a.now.value.table c.args.cause (told_place c.args.unit.now.class.members c.args.unit.now.text.now.toks c.args.unit.now.bound.now.names) c.args.all.now
    c.loop-told.told-index _ c.args.first c.loop-told.now c.at_told-now.result c.loop-told-test.true c.loop-told.invariant c.at_told-now.ensures

pub returns : goal.returns
returns c =
    then_all c.args.a.now.value.table c.args.cause (told_place c.args.unit.now.class.members c.args.unit.now.text.now.toks c.args.unit.now.bound.now.names) c.args.all.now
    c.loop-told.told-index c.args.first c.loop-told.now c.loop-told-test.false c.loop-told.invariant
