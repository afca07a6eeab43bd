use Rattle.std.proofs.Common.{◌≡◌, ◌<◌, ◌∙◌, ◌&&◌, ℕ, Bool, List, length, sym, ap}
use Rattle.std.specs.Prelude.{nat_le, nat_lt}
use Rattle.cs_base.proofs.BoolLemmas.{and_false as and-false, both_true as both-true}
use Rattle.cs_base.proofs.ListLemmas.{read_at}
use Rattle.analysis.specs.Below.unit_steps.declared.events.Event.{Event}
use Rattle.unused_names.specs.Inclusions.{is_enter, end_of, tokens_before}
use Rattle.trim_rules.specs.Trimmed.{is_line}
use Rattle.trim_plan.specs.Left.{is_brought}
use Rattle.trim_plan.proofs.PlaceLemmas.{event-other, event-one, marks-as}
use Rattle.trim_plan.proofs.left.mark_event.Goals as goal

pub returns-then-not-is_enter : goal.returns-then-not-is_enter
returns-then-not-is_enter c =
    let e = c.index-events-k.result in
    let events = c.events-events.result.now in
    let within : c.args.k < length events = rw c.events-events.ensures c.requires.within in
    let at = rw c.events-events.ensures at (read_at events c.args.k e within c.index-events-k.is) in
    event-other c.args.lines.now c.args.text.now c.args.k e at c.args.gone.now.items
    (ap (λ (b : Bool). b && is_line c.args.lines.now e.at) (sym c.if-not-is_enter.ensures))

pub returns-then-not-has : goal.returns-then-not-has
returns-then-not-has c =
    let e = c.index-events-k.result in
    let events = c.events-events.result.now in
    let within : c.args.k < length events = rw c.events-events.ensures c.requires.within in
    let at = rw c.events-events.ensures at (read_at events c.args.k e within c.index-events-k.is) in
    event-other c.args.lines.now c.args.text.now c.args.k e at c.args.gone.now.items
    (ap (λ (b : Bool). is_enter e.kind && b) (sym c.if-not-has.ensures) ∙ and-false (is_enter e.kind))

pub returns : goal.returns
returns c =
    let e = c.index-events-k.result in
    let text = c.args.text.now in
    let events = c.events-events.result.now in
    let within : c.args.k < length events = rw c.events-events.ensures c.requires.within in
    let at = rw c.events-events.ensures at (read_at events c.args.k e within c.index-events-k.is) in
    let to : c.tokens_before-to.result ≡ tokens_before text (end_of text.events c.args.k) =
    c.tokens_before-to.ensures ∙ ap (tokens_before text) (c.end_of.ensures.answer ∙ ap (λ (es : List Event). end_of es c.args.k) c.events-events.ensures) in
    event-one c.args.lines.now text c.args.k e at c.args.gone.now.items c.mark.new.gone.items
    (both-true (is_enter e.kind) (is_line c.args.lines.now e.at) (sym c.if-not-is_enter.ensures) (sym c.if-not-has.ensures))
    (marks-as (λ j. nat_le c.tokens_before-from.result j && nat_lt j c.tokens_before-to.result) (λ j. is_brought text j c.args.k) c.args.gone.now.items c.mark.new.gone.items
    (λ j. ap (λ (n : ℕ). nat_le n j && nat_lt j c.tokens_before-to.result) c.tokens_before-from.ensures
    ∙ ap (λ (n : ℕ). nat_le (tokens_before text c.args.k) j && nat_lt j n) to)
    c.mark.ensures)
