use Rattle.std.proofs.Common.{◌≡◌, ◌+◌, ◌++◌, ◌∷◌, [], take, List, ap, sym, ◌∙◌, arith}
use Rattle.std.proofs.lemmas.List.{take_all, take_more}
use Rattle.std.proofs.lemmas.Option.{slice_get_within, get_or_from_slice_get}
use Rattle.analysis.specs.Analysis.{UnitAnalysis}
use Rattle.analysis.proofs.OneUnitLemmas.{unit_of_number}
use Rattle.analysis.proofs.all_units.AllUnits.of.Goals as goal

pub loop-unit-preserved : goal.loop-unit-preserved
loop-unit-preserved c =
    let units = c.args.a.now.value.units in
    let n = c.loop-unit.unit in
    let u = c.in_ok-one.one in
    let at = unit_of_number units n u c.in_ok-one.ensures in
    let more : take (n + 1) units ≡ take n units ++ u ∷ [] =
    take_more units n u (slice_get_within units n u at) ∙ ap (λ (v : UnitAnalysis). take n units ++ v ∷ []) (get_or_from_slice_get units n u u at) in
    c.in_ok-push.ensures.items ∙ ap (λ (us : List UnitAnalysis). us ++ u ∷ []) c.loop-unit.invariant ∙ sym more

pub invariant_of-result : goal.invariant_of-result
invariant_of-result c =
    c.loop-unit.invariant ∙ take_all c.loop-unit.unit c.args.a.now.value.units (omega (arith, c.units-unit-end.ensures, c.loop-unit-test.false))
