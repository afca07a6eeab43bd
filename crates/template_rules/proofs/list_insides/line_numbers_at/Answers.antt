use Rattle.std.specs.List.{flat_map}
use Rattle.cs_base.specs.declared.causes.Cause.TheVariants as cause
use Rattle.offences.specs.First.{standing}
use Rattle.offences.proofs.FirstLemmas.{then_none}
use Rattle.template_rules.specs.MacroOffences.{line_number_place}
use Rattle.template_rules.proofs.StepLemmas.{more_next, more_all}
use Rattle.template_rules.proofs.list_insides.line_numbers_at.Goals as goal

pub loop-event-init : goal.loop-event-init
loop-event-init c ls moved = then_none c.args.a.now.value.table c.args.first

pub loop-event-preserved : goal.loop-event-preserved
loop-event-preserved c ls moved =
    more_next c.args.a.now.value.table (λ e. flat_map (λ m. standing cause.LineNumber (line_number_place m.now e)) ls) c.args.events.now
    c.loop-event.event-index c.event-item.result c.args.first c.loop-event.now c.line_number_in-now.result
    c.loop-event-test.true c.event-item.is (c.loop-event.invariant ls moved) (c.line_number_in-now.ensures ls moved)

pub returns : goal.returns
returns c ls moved =
    more_all c.args.a.now.value.table (λ e. flat_map (λ m. standing cause.LineNumber (line_number_place m.now e)) ls) c.args.events.now
    c.loop-event.event-index c.args.first c.loop-event.now c.loop-event-test.false (c.loop-event.invariant ls moved)
