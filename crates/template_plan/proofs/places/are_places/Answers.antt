use Rattle.std.proofs.Common.{refl, ◌≡◌, ◌<◌, ℕ, Some, slice_get, arith}
use Rattle.std.proofs.lemmas.Option.{slice_get_within}
use Rattle.template_plan.proofs.ComparedLemmas.{below-next}
use Rattle.template_plan.proofs.places.are_places.Goals as goal

pub loop-p-init : goal.loop-p-init
loop-p-init c = λ q k below is. absurd (omega (arith, below))

pub loop-p-preserved : goal.loop-p-preserved
loop-p-preserved c = λ q k below is.
    let toks = c.args.toks.now in
    let places = c.args.places.now in
    below-next (λ (i : ℕ). (m : ℕ) → slice_get toks i ≡ Some m → slice_get places m ≡ Some i) c.loop-p.p q below
    (λ i less m is. c.loop-p.invariant i m less is)
    (λ m is. c.if-not-is_placed.ensures refl m is) k is

pub returns : goal.returns
returns c = λ passed q k is. c.loop-p.invariant q k (omega (arith, c.loop-p-test.false, slice_get_within c.args.toks.now q k is)) is
