use Rattle.std.proofs.Common.{◌≡◌, ◌∙◌, List, sym, ap, slice_get}
use Rattle.std.specs.Option.{option_map}
use Rattle.cs_base.proofs.ListLemmas.{read_at}
use Rattle.analysis.specs.Below.unit_steps.declared.events.Event.{Event}
use Rattle.analysis.specs.Below.unit_steps.Texts.{UnitTextValue}
use Rattle.trim_rules.specs.Judging.{told_of}
use Rattle.trim_rules.specs.Reasons.{reason}
use Rattle.trim_rules.proofs.HeldLemmas.{held-why}
use Rattle.trim_rules.proofs.JudgingLemmas.{event-closed, event-open}
use Rattle.trim_rules.proofs.judging.Judging.note_event.Goals as goal

pub returns-then-not-is_open : goal.returns-then-not-is_open
returns-then-not-is_open c = λ table u are.
    let e = c.index-events-k.result in
    let at = read_at c.args.events.now c.args.k e c.requires.within c.index-events-k.is in
    let own : c.args.events.now ≡ u.text.events = sym c.requires.own ∙ ap (λ (t : UnitTextValue). t.events) are.text in
    event-closed table u (told_of c.args.self.now.whys) c.args.k e (sym (ap (λ (es : List Event). slice_get es c.args.k) own) ∙ at) (sym c.if-not-is_open.ensures)

pub returns : goal.returns
returns c = λ table u are.
    let e = c.index-events-k.result in
    let at = read_at c.args.events.now c.args.k e c.requires.within c.index-events-k.is in
    let own : c.args.events.now ≡ u.text.events = sym c.requires.own ∙ ap (λ (t : UnitTextValue). t.events) are.text in
    event-open table u (told_of c.args.self.now.whys) (told_of c.know.new.self.whys) c.args.k e (option_map reason c.why_in-why.result)
    (sym (ap (λ (es : List Event). slice_get es c.args.k) own) ∙ at) (sym c.if-not-is_open.ensures) (c.why_in-why.ensures ∙ held-why table u c.args.reasons.now c.args.k are)
    c.in_ok-know.ensures
