use Rattle.offences.proofs.FirstLemmas.{then_none, then_next, then_all}
use Rattle.cs_base.specs.declared.causes.Cause.TheVariants as cause
use Rattle.template_rules.specs.MacroOffences.{replaced_place}
use Rattle.template_rules.proofs.macro_names.at_replaced.Goals as goal

pub loop-event-init : goal.loop-event-init
loop-event-init c = then_none c.args.a.now.value.table c.args.first

pub loop-event-preserved : goal.loop-event-preserved
loop-event-preserved c =
    then_next c.args.a.now.value.table cause.InMacro (replaced_place c.args.class.now.members) c.args.events.now c.loop-event.event-index c.event-item.result c.args.first c.loop-event.now c.replaced_at-now.result
    c.loop-event-test.true c.event-item.is c.loop-event.invariant c.replaced_at-now.ensures

pub returns : goal.returns
returns c =
    then_all c.args.a.now.value.table cause.InMacro (replaced_place c.args.class.now.members) c.args.events.now c.loop-event.event-index c.args.first c.loop-event.now
    c.loop-event-test.false c.loop-event.invariant
