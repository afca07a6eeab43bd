use Rattle.std.proofs.Common.{ap}
use Rattle.std.specs.List.{flat_map}
use Rattle.offences.proofs.FirstLemmas.{then_none, then_both}
use Rattle.cs_base.specs.declared.causes.Cause.TheVariants as cause
use Rattle.offences.specs.First.{standing}
use Rattle.template_rules.specs.Insides.{unit_macro_names}
use Rattle.template_rules.specs.MacroOffences.{replaced_place, pasted_place}
use Rattle.template_rules.proofs.StepLemmas.{more_next, more_all}
use Rattle.template_rules.proofs.UnitLemmas.{macro_names_of, macro_names_told, units_first}
use Rattle.template_rules.proofs.macro_names.at_macro_names.Goals as goal

pub loop-unit-init : goal.loop-unit-init
loop-unit-init c = then_none c.analysis-a.result.now.value.table c.args.first

pub loop-unit-preserved : goal.loop-unit-preserved
loop-unit-preserved c =
    let f = c.unit-item.result in
    more_next c.analysis-a.result.now.value.table macro_names_of c.units-units.result.now c.loop-unit.unit-index f c.args.first c.loop-unit.now c.at_pasted-now.result
    c.loop-unit-test.true c.unit-item.is c.loop-unit.invariant
    (then_both c.analysis-a.result.now.value.table
    (standing cause.InMacro (flat_map (replaced_place f.class.members) f.text.now.events))
    (standing cause.InMacro (flat_map (pasted_place f.class.members) f.text.now.pasted))
    c.loop-unit.now c.at_replaced-replaced.result c.at_pasted-now.result (rw c.events.ensures at c.at_replaced-replaced.ensures) (rw c.pasted.ensures at c.at_pasted-now.ensures))

pub returns : goal.returns
returns c =
    let class = c.args.functions.now in
    let all = more_all c.analysis-a.result.now.value.table macro_names_of c.units-units.result.now c.loop-unit.unit-index c.args.first c.loop-unit.now c.loop-unit-test.false c.loop-unit.invariant in
    record {
      answer = units_first class c.units-units.result.now c.units-units.ensures (macro_names_of) (unit_macro_names class.members)
          (λ u f own is. macro_names_told class u f own is) class.analysis.value.table c.args.first c.loop-unit.now (rw c.analysis-a.ensures at all);
    }
