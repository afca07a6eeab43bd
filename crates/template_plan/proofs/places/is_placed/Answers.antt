use Rattle.std.proofs.Common.{◌≡◌, ◌∙◌, ℕ, Some, length, slice_get, refl, sym, subst}
use Rattle.std.proofs.lemmas.Option.{same_Some, slice_get_read}
use Rattle.template_plan.proofs.places.is_placed.Goals as goal

pub returns-in-Some : goal.returns-in-Some
returns-in-Some c = λ passed k at.
    let toks = c.args.toks.now in
    let had : slice_get toks c.args.p ≡ Some c.in-Some.k.now =
    slice_get_read toks (length toks) c.args.p c.in-Some.k.now refl c.in-Some.ensures.lookup.3.0 c.in-Some.ensures.lookup.1 in
    subst (λ (x : ℕ). slice_get c.args.places.now x ≡ Some c.args.p) (same_Some c.in-Some.k.now k (sym had ∙ at)) (c.is_number_at.ensures passed)
