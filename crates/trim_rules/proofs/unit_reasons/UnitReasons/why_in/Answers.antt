use Rattle.std.proofs.Common.{◌≡◌, ◌∙◌, ℕ, List, ap}
use Rattle.analysis.specs.Below.unit_steps.declared.events.Event.{Event}
use Rattle.unused_names.specs.Inclusions.{end_of, tokens_before}
use Rattle.trim_rules.specs.Held.{why_between}
use Rattle.trim_rules.proofs.unit_reasons.UnitReasons.why_in.Goals as goal

pub returns : goal.returns
returns c =
    let r = c.args.self.now in
    let text = r.text.now in
    let k = c.args.k in
    let end : c.end_of-end.result ≡ end_of text.events k = c.end_of-end.ensures.answer ∙ ap (λ (es : List Event). end_of es k) c.events-events.ensures in
    let to : c.tokens_before-to.result ≡ tokens_before text (end_of text.events k) = c.tokens_before-to.ensures ∙ ap (tokens_before text) end in
    c.why_between.ensures
    ∙ ap (λ (n : ℕ). why_between r k n c.tokens_before-from.result c.tokens_before-to.result) end
    ∙ ap (λ (n : ℕ). why_between r k (end_of text.events k) n c.tokens_before-to.result) c.tokens_before-from.ensures
    ∙ ap (why_between r k (end_of text.events k) (tokens_before text k)) to
