use Rattle.std.proofs.Common.{◌≡◌, ◌<◌, length, Some, sym, ap, ◌∙◌, slice_get}
use Rattle.std.proofs.lemmas.Option.{slice_get-get_or}
use Rattle.template_rules.proofs.WholeLemmas.{whole_in}
use Rattle.template_rules.proofs.list_macros.is_whole_in.Goals as goal

pub returns : goal.returns
returns c is =
    let places = c.as_slice-found.result.now in
    let other = c.index-found-at.result in
    let within : c.lists_before_run-at.result < length places = c.if-at-found.false in
    let at : slice_get places c.lists_before_run-at.result ≡ Some other =
    slice_get-get_or places c.lists_before_run-at.result other within ∙ ap Some (sym c.index-found-at.is) in
    whole_in c.args.unit.now c.args.toks.now c.args.list.now c.args.number places c.as_slice-found.ensures.value c.lists_before_run-at.result other at
    (c.is_whole_at.ensures is)
