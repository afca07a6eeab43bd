use Rattle.std.proofs.Common.{◌∙◌, List, sym, ap}
use Rattle.std.specs.Option.{option_map, option_or}
use Rattle.analysis.specs.Below.unit_steps.declared.events.Event.{Event}
use Rattle.trim_rules.specs.Held.{is_held_whole, first_held_giving, why_behind}
use Rattle.trim_rules.specs.Mentions.{told_at}
use Rattle.trim_rules.specs.Reasons.{reason}
use Rattle.trim_rules.specs.Staying.{name, name_why}
use Rattle.trim_rules.proofs.HeldLemmas.{why-fragment, why-first, why-other}
use Rattle.trim_rules.proofs.unit_reasons.UnitReasons.why_between.Goals as goal

pub returns-then-not-is_whole : goal.returns-then-not-is_whole
returns-then-not-is_whole c =
    let r = c.args.self.now in
    why-fragment (is_held_whole r.edges.items c.args.from c.args.to)
    (option_or (option_map (name_why r.text.now.events) (first_held_giving (told_at r.mentions.spans) r.text.now.events c.args.k c.args.end))
    (why_behind r c.args.k c.args.end c.args.from c.args.to))
    (rw c.deref.ensures.value at (sym c.if-not-is_whole.ensures))

pub returns-in-Some : goal.returns-in-Some
returns-in-Some c =
    let r = c.args.self.now in
    why-first (is_held_whole r.edges.items c.args.from c.args.to) (name_why r.text.now.events)
    (first_held_giving (told_at r.mentions.spans) r.text.now.events c.args.k c.args.end) c.in-Some.i _
    (why_behind r c.args.k c.args.end c.args.from c.args.to) (rw c.deref.ensures.value at (sym c.if-not-is_whole.ensures))
    (sym (c.in-Some.ensures ∙ ap (λ (es : List Event). first_held_giving (told_at r.mentions.spans) es c.args.k c.args.end) c.events-events.ensures))
    (ap name c.name_at.ensures ∙ ap (λ (es : List Event). name_why es c.in-Some.i) c.events-events.ensures)

pub returns-in-None : goal.returns-in-None
returns-in-None c =
    let r = c.args.self.now in
    why-other (is_held_whole r.edges.items c.args.from c.args.to) (name_why r.text.now.events)
    (first_held_giving (told_at r.mentions.spans) r.text.now.events c.args.k c.args.end)
    (why_behind r c.args.k c.args.end c.args.from c.args.to) _ (rw c.deref.ensures.value at (sym c.if-not-is_whole.ensures))
    (sym (c.in-None.ensures ∙ ap (λ (es : List Event). first_held_giving (told_at r.mentions.spans) es c.args.k c.args.end) c.events-events.ensures))
    c.behind_names.ensures
