use Rattle.std.proofs.Common.{refl, ◌≡◌, ◌<◌, ℕ, Some, slice_get, arith}
use Rattle.std.proofs.lemmas.Option.{slice_get_within}
use Rattle.analysis.specs.Below.scope_bind.declared.bound.Name.{Name}
use Rattle.template_plan.proofs.ComparedLemmas.{below-next}
use Rattle.template_plan.proofs.comparing.are_within.Goals as goal

pub loop-k-init : goal.loop-k-init
loop-k-init c = λ j n below is. absurd (omega (arith, below))

pub loop-k-preserved : goal.loop-k-preserved
loop-k-preserved c = λ j n below is.
    let names = c.args.names.now in
    let count = c.args.count in
    below-next (λ (i : ℕ). (m : Name) → slice_get names i ≡ Some m → (m.index < count) × (m.entity < count)) c.loop-k.k j below
    (λ i less m is. c.loop-k.invariant i m less is)
    (λ m is. c.if-not-is_within.ensures refl m is) n is

pub returns : goal.returns
returns c = λ passed j n is. c.loop-k.invariant j n (omega (arith, c.loop-k-test.false, slice_get_within c.args.names.now j n is)) is
