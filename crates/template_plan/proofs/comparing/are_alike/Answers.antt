use Rattle.std.proofs.Common.{refl, ◌≡◌, ◌<◌, ℕ, Some, slice_get, arith}
use Rattle.std.proofs.lemmas.Option.{slice_get_within}
use Rattle.template_meaning.specs.Compared.{IsAlikeAt}
use Rattle.template_plan.proofs.ComparedLemmas.{below-next}
use Rattle.template_plan.proofs.comparing.are_alike.Goals as goal

pub loop-k-init : goal.loop-k-init
loop-k-init c = λ j at below is. absurd (omega (arith, below))

pub loop-k-preserved : goal.loop-k-preserved
loop-k-preserved c = λ j at below is.
    let places = c.args.places.now in
    below-next (λ (i : ℕ). (at : ℕ) → slice_get places i ≡ Some at → IsAlikeAt c.args.u.now c.args.v.now places i at) c.loop-k.k j below
    (λ i less at is. c.loop-k.invariant i at less is)
    (λ at is. c.if-not-is_alike.ensures refl at is) at is

pub returns : goal.returns
returns c = λ passed k at is.
    c.loop-k.invariant k at (omega (arith, c.loop-k-test.false, slice_get_within c.args.places.now k at is)) is
