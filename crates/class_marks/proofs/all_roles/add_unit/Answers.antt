use Rattle.std.proofs.Common.{List, ap, ◌∙◌}
use Rattle.std.specs.List.{flat_map}
use Rattle.cs_base.specs.Token.{Token}
use Rattle.analysis.specs.Below.unit_steps.declared.events.Event.{Event}
use Rattle.class_marks.specs.ClassRoles.{of_role}
use Rattle.class_marks.specs.Marks.{with_tokens}
use Rattle.class_marks.specs.Roles.{event_name, tokens_with}
use Rattle.class_marks.proofs.MarkLemmas.{both_lists}
use Rattle.class_marks.proofs.all_roles.add_unit.Goals as goal

pub returns : goal.returns
returns c = λ role.
    let text = c.args.text.now in
    let names = c.args.bound.now.names in
    both_lists c.args.classes.now (flat_map (event_name role) text.events) (tokens_with role names 0 text.toks) (of_role role c.args.all.now.items)
    (of_role role c.add_events.new.all.items) (of_role role c.add_tokens.new.all.items)
    (c.add_events.ensures role
    ∙ ap (λ (es : List Event). with_tokens c.args.classes.now (of_role role c.args.all.now.items) (flat_map (event_name role) es)) c.events.ensures)
    (c.in_ok-add_tokens.ensures role
    ∙ ap (λ (ts : List Token). with_tokens c.args.classes.now (of_role role c.add_events.new.all.items) (tokens_with role names 0 ts)) c.toks.ensures)
