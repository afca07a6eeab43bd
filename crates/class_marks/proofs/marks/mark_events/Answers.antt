use Rattle.std.proofs.Common.{List, ap, ◌∙◌}
use Rattle.std.specs.List.{flat_map}
use Rattle.std.proofs.lemmas.List.{take_all}
use Rattle.cs_base.proofs.ListLemmas.{read_at}
use Rattle.analysis.specs.Below.unit_steps.declared.events.Event.{Event}
use Rattle.class_marks.specs.Marks.{with_tokens}
use Rattle.class_marks.specs.Roles.{event_name}
use Rattle.class_marks.proofs.MarkLemmas.{list_step}
use Rattle.class_marks.proofs.marks.mark_events.Goals as goal

pub loop-event-preserved : goal.loop-event-preserved
loop-event-preserved c =
    list_step c.args.classes.now (event_name c.args.role) c.args.events.now c.loop-event.event-index c.event-item.result c.args.marks.now.items
    c.loop-event.marks.items c.mark_event.new.marks.items
    (read_at c.args.events.now c.loop-event.event-index c.event-item.result c.loop-event-test.true c.event-item.is) c.loop-event.invariant c.mark_event.ensures

pub returns : goal.returns
returns c =
    let all = take_all c.loop-event.event-index c.args.events.now c.loop-event-test.false in
    c.loop-event.invariant ∙ ap (λ (es : List Event). with_tokens c.args.classes.now c.args.marks.now.items (flat_map (event_name c.args.role) es)) all
