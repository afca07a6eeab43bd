use Rattle.std.proofs.Common.{[], arith}
use Rattle.std.specs.List.{flat_map}
use Rattle.std.proofs.lemmas.List.{take_all}
use Rattle.analysis.specs.Analysis.{UnitAnalysis}
use Rattle.analysis.proofs.OneUnitLemmas.{unit_of_number}
use Rattle.macro_rules.specs.Macros.{called_place}
use Rattle.macro_rules.proofs.WalkLemmas.{units_next}
use Rattle.macro_rules.proofs.replacements.called_places.Goals as goal

pub loop-unit-preserved : goal.loop-unit-preserved
loop-unit-preserved c =
    let u = c.in_ok-one.one in
    let at = unit_of_number c.args.a.now.value.units c.loop-unit.unit u c.in_ok-one.ensures in
    units_next (λ (u : UnitAnalysis). flat_map (called_place c.args.macros.now) u.text.events) c.args.a.now.value.units c.loop-unit.unit u [] c.loop-unit.out c.push_all_called.new.out at c.loop-unit.invariant
    (rw (← c.text.ensures, ← c.events.ensures) c.in_ok-push_all_called.ensures)

pub returns : goal.returns
returns c =
    let all = take_all c.loop-unit.unit c.args.a.now.value.units (omega (arith, c.units-unit-end.ensures)) in
    rw (← all) c.loop-unit.invariant
