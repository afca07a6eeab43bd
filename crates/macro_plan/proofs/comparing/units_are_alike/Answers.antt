use Rattle.std.proofs.Common.{◌≡◌, ◌+◌, ◌-◌, Some, slice_get, arith}
use Rattle.analysis.specs.Below.unit_steps.Texts.{UnitTextValue}
use Rattle.analysis.specs.Analysis.{UnitAnalysis}
use Rattle.analysis.proofs.OneUnitLemmas.{unit_of_number}
use Rattle.macro_plan.specs.Kept.{plains}
use Rattle.macro_plan.proofs.AlikeLemmas.{units_next, units_all}
use Rattle.macro_plan.proofs.comparing.units_are_alike.Goals as goal

pub loop-unit-preserved : goal.loop-unit-preserved
loop-unit-preserved c =
    let k = c.loop-unit.unit in
    let same : k + 1 - 1 ≡ k = omega arith in
    let now : slice_get c.args.now.now.texts k ≡ Some c.text-has.result.now = rw same at c.text-has.ensures in
    let u = c.in_ok-one.one in
    let at = unit_of_number c.args.a.now.value.units k u c.in_ok-one.ensures in
    units_next (λ (t : UnitTextValue). plains t.toks) (λ (v : UnitAnalysis). plains v.text.toks) c.args.now.now.texts c.args.a.now.value.units k
    c.text-has.result.now u now at c.loop-unit.invariant
    (rw (← c.text-had.ensures, ← c.toks-toks.ensures, ← c.toks-others.ensures) (c.are_alike.ensures c.if-not-are_alike.false))

pub returns : goal.returns
returns c =
    λ is. units_all (λ (t : UnitTextValue). plains t.toks) (λ (v : UnitAnalysis). plains v.text.toks) c.args.now.now.texts c.args.a.now.value.units c.loop-unit.unit
    (omega arith) (omega arith) c.loop-unit.invariant
