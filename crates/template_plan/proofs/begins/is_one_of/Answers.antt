use Rattle.std.proofs.Common.{◌≡◌, ◌∙◌, Some, length, slice_get, refl}
use Rattle.std.proofs.lemmas.Option.{slice_get_past, slice_get_read}
use Rattle.template_plan.proofs.BeginLemmas.{placed, unplaced}
use Rattle.template_plan.proofs.begins.is_one_of.Goals as goal

pub returns-in-Some : goal.returns-in-Some
returns-in-Some c =
    let places = c.args.places.now in
    let had : slice_get places c.args.k ≡ Some c.in-Some.number.now =
    slice_get_read places (length places) c.args.k c.in-Some.number.now refl c.in-Some.ensures.lookup.3.0 c.in-Some.ensures.lookup.1 in
    c.is_begin_of.ensures ∙ placed c.args.lists.now places c.requires c.args.k c.in-Some.number.now had

pub returns-in-None : goal.returns-in-None
returns-in-None c =
    let past = c.in-None.ensures.lookup in
    unplaced c.args.lists.now c.args.places.now c.requires c.args.k (slice_get_past c.args.places.now c.args.k past.3)
