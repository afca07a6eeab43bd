use Rattle.std.proofs.Common.{◌≡◌, ◌∙◌, ℕ, Some, length, slice_get, refl, sym, subst}
use Rattle.std.proofs.lemmas.Option.{same_Some, slice_get_read}
use Rattle.template_meaning.specs.Compared.{IsAlikeAt}
use Rattle.template_plan.proofs.comparing.is_alike.Goals as goal

pub returns-in-Some : goal.returns-in-Some
returns-in-Some c = λ passed at is.
    let places = c.args.places.now in
    let own : slice_get places c.args.k ≡ Some c.in-Some.at.now =
    slice_get_read places (length places) c.args.k c.in-Some.at.now refl c.in-Some.ensures.lookup.3.0 c.in-Some.ensures.lookup.1 in
    subst (λ (n : ℕ). IsAlikeAt c.args.u.now c.args.v.now places c.args.k n) (same_Some c.in-Some.at.now at (sym own ∙ is)) (c.is_alike_at.ensures passed)
