use Rattle.std.proofs.Common.{◌≡◌, ◌∙◌, List, ℕ, ◌<◌, ◌≤◌, ap, subst}
use Rattle.analysis.specs.Below.unit_steps.declared.events.Event.{Event}
use Rattle.unused_names.specs.Inclusions.{end_of}
use Rattle.unused_names.specs.LastUses.{MeansBehind}
use Rattle.unused_names.specs.Spans.{ReachesOut}
use Rattle.unused_names.specs.Unneeded.{IsUnneeded}
use Rattle.class_marks.proofs.AnswerLemmas.{said_not}
use Rattle.unused_names.proofs.UnneededLemmas.{is_unneeded, needed_by_entity, needed_by_number, needed_by_name}
use Rattle.unused_names.proofs.lines.is_unneeded.Goals as goal

pub end_of-end-requires : goal.end_of-end-requires
end_of-end-requires c = rw c.events-events.ensures c.requires.within

pub any_means_behind-requires : goal.any_means_behind-requires
any_means_behind-requires c = record {
  within = c.end_of-end.ensures.within;
  begins = rw c.events-events.ensures c.requires.within;
  last = rw c.events-events.ensures c.requires.uses;
}

pub returns-then-any_reaches_out : goal.returns-then-any_reaches_out
returns-then-any_reaches_out c =
    let text = c.args.text.now in
    let is_end : c.end_of-end.result ≡ end_of text.events c.args.k =
    c.end_of-end.ensures.answer ∙ ap (λ (es : List Event). end_of es c.args.k) c.events-events.ensures in
    let x = c.if-any_reaches_out.ensures in
    let out : ReachesOut c.args.bound.now.names c.args.count c.tokens_before-from.result c.tokens_before-to.result x.0 = x.4 in
    needed_by_entity text c.args.bound.now.names c.args.k c.tokens_before-from.result c.tokens_before-to.result c.end_of-end.result is_end
    c.tokens_before-from.ensures c.tokens_before-to.ensures x.0 x.1 x.2 (subst (λ (n : ℕ). x.0 < n) c.requires.count x.3)
    (subst (λ (n : ℕ). ReachesOut c.args.bound.now.names n c.tokens_before-from.result c.tokens_before-to.result x.0) c.requires.count out)

pub any_counts-requires : goal.any_counts-requires
any_counts-requires c = record {
  within = c.end_of-end.ensures.within;
  begins = rw c.events-events.ensures c.requires.within;
}

pub returns-then-any_counts : goal.returns-then-any_counts
returns-then-any_counts c =
    let text = c.args.text.now in
    let is_end : c.end_of-end.result ≡ end_of text.events c.args.k =
    c.end_of-end.ensures.answer ∙ ap (λ (es : List Event). end_of es c.args.k) c.events-events.ensures in
    let x = rw c.events-events.ensures at c.if-any_counts.ensures in
    needed_by_number text c.args.bound.now.names c.args.k c.tokens_before-from.result c.tokens_before-to.result c.end_of-end.result is_end
    c.tokens_before-from.ensures c.tokens_before-to.ensures x.0 x.1 x.2 x.3

pub returns : goal.returns
returns c =
    let text = c.args.text.now in
    let names = c.args.bound.now.names in
    let k = c.args.k in
    let from = c.tokens_before-from.result in
    let to = c.tokens_before-to.result in
    let end = c.end_of-end.result in
    let is_end : end ≡ end_of text.events k = c.end_of-end.ensures.answer ∙ ap (λ (es : List Event). end_of es k) c.events-events.ensures in
    let asks = rw c.events-events.ensures at c.any_means_behind.ensures in
    let outs = c.if-any_reaches_out.ensures in
    let counted = rw c.events-events.ensures at c.if-any_counts.ensures in
    said_not c.any_means_behind.result ((i : ℕ) × (k < i) × (i < end) × MeansBehind text.events i end)
    ((i : ℕ) → k < i → i < end → MeansBehind text.events i end → ⊥) (IsUnneeded text names k) (IsUnneeded text names k → ⊥) asks
    (λ m. needed_by_name text names k from to end is_end c.tokens_before-from.ensures c.tokens_before-to.ensures m.0 m.1 m.2 m.3)
    (λ none. is_unneeded text names k from to end is_end c.tokens_before-from.ensures c.tokens_before-to.ensures
    (subst (λ (n : ℕ). (i : ℕ) → from ≤ i → i < to → i < n → ReachesOut names n from to i → ⊥) c.requires.count outs) counted none)
