use Rattle.std.proofs.Common.{◌≡◌, ◌∙◌, Some, length, slice_get, refl, sym, ap}
use Rattle.std.specs.Option.{option_map}
use Rattle.std.proofs.lemmas.Option.{slice_get_read}
use Rattle.template_meaning.specs.Below.reordered.Reordered.{plain}
use Rattle.template_plan.proofs.comparing.is_same_tok.Goals as goal

pub returns-in-Some : goal.returns-in-Some
returns-in-Some c = λ passed.
    let old = c.args.old.now in
    let had : slice_get old c.args.k ≡ Some c.in-Some.tok.now =
    slice_get_read old (length old) c.args.k c.in-Some.tok.now refl c.in-Some.ensures.lookup.3.0 c.in-Some.ensures.lookup.1 in
    c.is_tok_at.ensures passed ∙ sym (ap (option_map plain) had)
