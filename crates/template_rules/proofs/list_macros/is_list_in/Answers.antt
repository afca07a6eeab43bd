use Rattle.std.proofs.Common.{◌≡◌, ◌+◌, ◌<◌, ◌≤◌, Some, sym, ap, ◌∙◌, slice_get, arith}
use Rattle.std.proofs.lemmas.Option.{slice_get-get_or}
use Rattle.template_rules.proofs.PlaceLemmas.{none_higher, none_left, none_lower, none_to_next, stands_in}
use Rattle.template_rules.proofs.list_macros.is_list_in.Goals as goal

pub lists_before-from-requires : goal.lists_before-from-requires
lists_before-from-requires c = rw (c.toks-others.ensures, c.as_slice-found.ensures.value) c.args.unit.now.rising

pub loop-at-init : goal.loop-at-init
loop-at-init c =
    none_lower c.args.unit.now c.args.toks.now c.args.list.now c.args.k c.args.number c.as_slice-found.result.now c.as_slice-found.ensures.value
    c.lists_before-from.result (λ i m at on. rw (c.toks-others.ensures, c.name_number-name.ensures) at (c.lists_before-from.ensures.lower i m at on))

pub loop-at-preserved : goal.loop-at-preserved
loop-at-preserved c =
    let places = c.as_slice-found.result.now in
    let other = c.index-found-at.result in
    let at : slice_get places c.loop-at.at ≡ Some other = slice_get-get_or places c.loop-at.at other c.loop-at-test.true ∙ ap Some (sym c.index-found-at.is) in
    none_to_next c.args.unit.now c.args.toks.now c.args.list.now c.args.k c.args.number places c.as_slice-found.ensures.value c.loop-at.at other at
    (sym c.is_list_at.ensures ∙ c.if-is_list_at.false) c.loop-at.invariant

pub returns-then-is_past : goal.returns-then-is_past
returns-then-is_past c =
    let places = c.as_slice-found.result.now in
    let other = c.index-found-at.result in
    let at : slice_get places c.loop-at.at ≡ Some other = slice_get-get_or places c.loop-at.at other c.loop-at-test.true ∙ ap Some (sym c.index-found-at.is) in
    sym (none_higher c.args.unit.now c.args.toks.now c.args.list.now c.args.k c.args.number places c.as_slice-found.ensures.value c.loop-at.at other at
    (rw (c.toks-others.ensures, c.name_number-name.ensures) at (sym c.is_past.ensures ∙ c.if-is_past.true)) c.loop-at.invariant)

pub returns-then-is_list_at : goal.returns-then-is_list_at
returns-then-is_list_at c =
    let places = c.as_slice-found.result.now in
    let other = c.index-found-at.result in
    let at : slice_get places c.loop-at.at ≡ Some other = slice_get-get_or places c.loop-at.at other c.loop-at-test.true ∙ ap Some (sym c.index-found-at.is) in
    sym (stands_in c.args.unit.now c.args.toks.now c.args.list.now c.args.k c.args.number places c.as_slice-found.ensures.value c.loop-at.at other at
    (sym c.is_list_at.ensures ∙ c.if-is_list_at.true))

pub returns : goal.returns
returns c =
    sym (none_left c.args.unit.now c.args.toks.now c.args.list.now c.args.k c.args.number c.as_slice-found.result.now c.as_slice-found.ensures.value
    c.loop-at.at c.loop-at-test.false c.loop-at.invariant)
