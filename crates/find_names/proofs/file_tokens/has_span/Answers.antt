use Rattle.std.proofs.Common.{sym, ◌∙◌}
use Rattle.std.proofs.lemmas.Option.{slice_get-get_or}
use Rattle.find_names.specs.FileTokens.{is_part, place_number}
use Rattle.find_names.proofs.OrderLemmas.{none_higher, none_left, none_lower, none_to_next, same_place, stands_in}
use Rattle.find_names.proofs.file_tokens.has_span.Goals as goal

pub loop-at-init : goal.loop-at-init
loop-at-init c =
    none_lower place_number (λ p. is_part p c.args.part) (place_number c.args.part) (same_place c.args.part) c.args.spans.now c.spans_before-from.result
    (rw c.place_number-number.ensures at c.spans_before-from.ensures.lower)

pub returns-then-is_part : goal.returns-then-is_part
returns-then-is_part c =
    sym (stands_in (λ p. is_part p c.args.part) c.args.spans.now c.loop-at.at _ (slice_get-get_or c.args.spans.now c.loop-at.at _ c.loop-at-test.true)
    (sym c.is_part.ensures ∙ c.if-is_part.true))

pub returns-then-number-place_number : goal.returns-then-number-place_number
returns-then-number-place_number c =
    sym (none_higher place_number (λ p. is_part p c.args.part) (place_number c.args.part) (same_place c.args.part) c.args.spans.now c.requires c.loop-at.at _
    (slice_get-get_or c.args.spans.now c.loop-at.at _ c.loop-at-test.true)
    (rw (c.place_number-number.ensures, c.place_number.ensures) at c.if-number-place_number.true) c.loop-at.invariant)

pub loop-at-preserved : goal.loop-at-preserved
loop-at-preserved c =
    none_to_next (λ p. is_part p c.args.part) c.args.spans.now c.loop-at.at _ (slice_get-get_or c.args.spans.now c.loop-at.at _ c.loop-at-test.true)
    (sym c.is_part.ensures ∙ c.if-is_part.false) c.loop-at.invariant

pub returns : goal.returns
returns c = sym (none_left (λ p. is_part p c.args.part) c.args.spans.now c.loop-at.at c.loop-at-test.false c.loop-at.invariant)
