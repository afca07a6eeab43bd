use Rattle.std.proofs.Common.{◌≡◌, ◌<◌, ◌+◌, ◌-◌, ◌∙◌, ℕ, Some, ap, slice_get, arith}
use Rattle.std.proofs.lemmas.Option.{slice_get_within}
use Rattle.analysis.specs.Analysis.{UnitAnalysis}
use Rattle.template_meaning.specs.Compared.{IsCompared}
use Rattle.template_plan.proofs.ComparedLemmas.{below-next}
use Rattle.template_plan.proofs.comparing.are_units.Goals as goal

pub loop-n-init : goal.loop-n-init
loop-n-init c = λ j u v below at there. absurd (omega (arith, below))

pub loop-n-preserved : goal.loop-n-preserved
loop-n-preserved c =
    let a = c.args.functions.now.analysis.value.units in
    let b = c.args.b.now.value.units in
    let n = c.loop-n.n in
    let back : (n + 1) - 1 ≡ n = omega arith in
    λ j u v below at there.
    below-next (λ (i : ℕ). (u v : UnitAnalysis) → slice_get a i ≡ Some u → slice_get b i ≡ Some v → IsCompared c.args.functions.now.members c.args.order.now u v) n j below
    (λ i less u v x y. c.loop-n.invariant i u v less x y)
    (λ u v x y. c.in_ok-same.ensures c.if-not-same.false u v (ap (slice_get a) back ∙ x) (ap (slice_get b) back ∙ y)) u v at there

pub returns : goal.returns
returns c = λ passed j u v at there.
    let within : j < c.loop-n.n =
    omega (arith, slice_get_within c.args.b.now.value.units j v there, c.units-n-end.ensures, c.loop-n-test.false) in
    c.loop-n.invariant j u v within at there
