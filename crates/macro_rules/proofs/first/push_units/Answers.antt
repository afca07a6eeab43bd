use Rattle.std.proofs.Common.{arith}
use Rattle.std.specs.List.{flat_map}
use Rattle.std.proofs.lemmas.List.{take_all}
use Rattle.analysis.specs.Analysis.{UnitAnalysis}
use Rattle.analysis.proofs.OneUnitLemmas.{unit_of_number}
use Rattle.macro_rules.specs.Offences.{indirect_offences, text_offences}
use Rattle.macro_rules.proofs.WalkLemmas.{units_next}
use Rattle.macro_rules.proofs.first.push_units.Goals as goal

pub loop-unit-preserved : goal.loop-unit-preserved
loop-unit-preserved c =
    let units = c.args.a.now.value.units in
    let n = c.loop-unit.unit in
    let u = c.in_ok-one.one in
    let at = unit_of_number units n u c.in_ok-one.ensures in (
      units_next (λ (u : UnitAnalysis). flat_map (indirect_offences c.args.macros.now) u.text.events) units n u c.args.events.now.items c.loop-unit.events.items
          c.push_all_indirect.new.out.items at c.loop-unit.invariant.0 (rw (← c.text-text.ensures, ← c.events.ensures) c.in_ok-push_all_indirect.ensures),
      units_next (λ (u : UnitAnalysis). text_offences c.args.calls.now u.text) units n u c.args.texts.now.items c.loop-unit.texts.items c.push_text.new.out.items at
          c.loop-unit.invariant.1 (rw (← c.text-text.ensures) c.in_ok-push_text.ensures),
    )

pub returns-clause-events : goal.returns-clause-events
returns-clause-events c =
    rw (← take_all c.loop-unit.unit c.args.a.now.value.units (omega (arith, c.units-unit-end.ensures))) c.loop-unit.invariant.0

pub returns-clause-texts : goal.returns-clause-texts
returns-clause-texts c =
    rw (← take_all c.loop-unit.unit c.args.a.now.value.units (omega (arith, c.units-unit-end.ensures))) c.loop-unit.invariant.1
