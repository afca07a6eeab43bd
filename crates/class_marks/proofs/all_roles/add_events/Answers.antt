use Rattle.std.proofs.Common.{List, ap, ◌∙◌}
use Rattle.std.specs.List.{flat_map}
use Rattle.std.proofs.lemmas.List.{take_all}
use Rattle.cs_base.proofs.ListLemmas.{read_at}
use Rattle.analysis.specs.Below.unit_steps.declared.events.Event.{Event}
use Rattle.class_marks.specs.ClassRoles.{of_role}
use Rattle.class_marks.specs.Marks.{with_tokens}
use Rattle.class_marks.specs.Roles.{event_name}
use Rattle.class_marks.proofs.MarkLemmas.{list_step}
use Rattle.class_marks.proofs.all_roles.add_events.Goals as goal

pub loop-event-preserved : goal.loop-event-preserved
loop-event-preserved c = λ role.
    list_step c.args.classes.now (event_name role) c.args.events.now c.loop-event.event-index c.event-item.result (of_role role c.args.all.now.items)
    (of_role role c.loop-event.all.items) (of_role role c.add_event.new.all.items)
    (read_at c.args.events.now c.loop-event.event-index c.event-item.result c.loop-event-test.true c.event-item.is) (c.loop-event.invariant role)
    (c.add_event.ensures role)

pub returns : goal.returns
returns c = λ role.
    let all = take_all c.loop-event.event-index c.args.events.now c.loop-event-test.false in
    c.loop-event.invariant role
    ∙ ap (λ (es : List Event). with_tokens c.args.classes.now (of_role role c.args.all.now.items) (flat_map (event_name role) es)) all
