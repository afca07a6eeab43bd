use Rattle.std.proofs.Common.{List, ap, ◌∙◌}
use Rattle.std.specs.List.{flat_map}
use Rattle.cs_base.specs.Token.{Token}
use Rattle.analysis.specs.Below.unit_steps.declared.events.Event.{Event}
use Rattle.class_marks.specs.Marks.{with_tokens}
use Rattle.class_marks.specs.Roles.{event_name, tokens_with}
use Rattle.class_marks.proofs.MarkLemmas.{both_lists}
use Rattle.class_marks.proofs.marks.mark_unit.Goals as goal

pub returns : goal.returns
returns c =
    let text = c.args.text.now in
    let names = c.args.bound.now.names in
    both_lists c.args.classes.now (flat_map (event_name c.args.role) text.events) (tokens_with c.args.role names 0 text.toks) c.args.marks.now.items
    c.mark_events.new.marks.items c.mark_tokens.new.marks.items (c.mark_events.ensures
    ∙ ap (λ (es : List Event). with_tokens c.args.classes.now c.args.marks.now.items (flat_map (event_name c.args.role) es)) c.events.ensures)
    (c.in_ok-mark_tokens.ensures
    ∙ ap (λ (ts : List Token). with_tokens c.args.classes.now c.mark_events.new.marks.items (tokens_with c.args.role names 0 ts)) c.toks.ensures)
