use Rattle.std.proofs.Common.{◌≡◌, ◌∙◌, Some, ℕ, length, slice_get, refl, ap}
use Rattle.std.proofs.lemmas.Option.{slice_get_read}
use Rattle.std.proofs.lemmas.Bool.{eqb-true}
use Rattle.template_plan.proofs.places.is_number_at.Goals as goal

pub returns-in-Some : goal.returns-in-Some
returns-in-Some c = λ passed.
    let places = c.args.places.now in
    let had : slice_get places c.args.k ≡ Some c.in-Some.place.now =
    slice_get_read places (length places) c.args.k c.in-Some.place.now refl c.in-Some.ensures.lookup.3.0 c.in-Some.ensures.lookup.1 in
    had ∙ ap (λ (n : ℕ). Some n) (eqb-true c.in-Some.place.now c.args.p passed)
