use Rattle.std.proofs.Common.{[], arith}
use Rattle.std.specs.List.{flat_map}
use Rattle.std.proofs.lemmas.List.{take_all}
use Rattle.analysis.specs.Analysis.{UnitAnalysis}
use Rattle.analysis.proofs.OneUnitLemmas.{unit_of_number}
use Rattle.macro_rules.specs.Macros.{defined_place, number_place, replaced_place}
use Rattle.macro_rules.proofs.WalkLemmas.{units_next}
use Rattle.macro_rules.proofs.replacements.found_places.Goals as goal

pub loop-unit-preserved : goal.loop-unit-preserved
loop-unit-preserved c =
    let units = c.args.a.now.value.units in
    let n = c.loop-unit.unit in
    let u = c.in_ok-one.one in
    let at = unit_of_number units n u c.in_ok-one.ensures in (
      units_next (λ (u : UnitAnalysis). flat_map (defined_place c.args.class.now.members) u.text.events) units n u [] c.loop-unit.macros c.push_all_defined.new.out at
          c.loop-unit.invariant.0 (rw (← c.text.ensures, ← c.events-events.ensures) c.in_ok-push_all_defined.ensures),
      units_next (λ (u : UnitAnalysis). flat_map (replaced_place c.args.replacing.now) u.text.events) units n u [] c.loop-unit.replaced c.push_all_replaced.new.out at
          c.loop-unit.invariant.1 (rw (← c.text.ensures, ← c.events-events.ensures) c.in_ok-push_all_replaced.ensures),
      units_next (λ (u : UnitAnalysis). flat_map number_place u.text.events) units n u [] c.loop-unit.lines c.push_all_numbers.new.out at
          c.loop-unit.invariant.2 (rw (← c.text.ensures, ← c.events-events.ensures) c.in_ok-push_all_numbers.ensures),
    )

pub returns-clause-macros : goal.returns-clause-macros
returns-clause-macros c =
    rw (← take_all c.loop-unit.unit c.args.a.now.value.units (omega (arith, c.units-unit-end.ensures))) c.loop-unit.invariant.0

pub returns-clause-replaced : goal.returns-clause-replaced
returns-clause-replaced c =
    rw (← take_all c.loop-unit.unit c.args.a.now.value.units (omega (arith, c.units-unit-end.ensures))) c.loop-unit.invariant.1

pub returns-clause-lines : goal.returns-clause-lines
returns-clause-lines c =
    rw (← take_all c.loop-unit.unit c.args.a.now.value.units (omega (arith, c.units-unit-end.ensures))) c.loop-unit.invariant.2
