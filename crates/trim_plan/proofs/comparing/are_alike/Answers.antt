use Rattle.std.proofs.Common.{refl, arith}
use Rattle.trim_plan.specs.Places.{IsAlike}
use Rattle.trim_plan.proofs.CompareLemmas.{below-next}
use Rattle.trim_plan.proofs.comparing.are_alike.Goals as goal

pub loop-k-init : goal.loop-k-init
loop-k-init c = λ gone n j is below. absurd (omega (arith, below))

pub loop-k-preserved : goal.loop-k-preserved
loop-k-preserved c = λ gone n j is below.
    below-next (IsAlike gone c.args.u.now c.args.v.now) c.loop-k.k j below (λ i less. c.loop-k.invariant gone n i is less)
    (c.if-not-is_alike.ensures refl gone n is)

pub returns : goal.returns
returns c = λ passed gone n k is below. c.loop-k.invariant gone n k is (omega (arith, c.loop-k-test.false, below))
