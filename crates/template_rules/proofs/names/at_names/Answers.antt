use Rattle.offences.proofs.FirstLemmas.{then_none}
use Rattle.template_rules.specs.NameOffences.{unit_names}
use Rattle.template_rules.proofs.StepLemmas.{more_next, more_all}
use Rattle.template_rules.proofs.UnitLemmas.{names_of, names_told, units_first}
use Rattle.template_rules.proofs.names.at_names.Goals as goal

pub loop-unit-init : goal.loop-unit-init
loop-unit-init c = then_none c.analysis-a.result.now.value.table c.args.first

pub loop-unit-preserved : goal.loop-unit-preserved
loop-unit-preserved c =
    more_next c.analysis-a.result.now.value.table names_of c.units-units.result.now c.loop-unit.unit-index c.unit-item.result c.args.first c.loop-unit.now c.at_unit_names-now.result
    c.loop-unit-test.true c.unit-item.is c.loop-unit.invariant (rw c.names.ensures at c.at_unit_names-now.ensures)

pub returns : goal.returns
returns c =
    let class = c.args.functions.now in
    let all = more_all c.analysis-a.result.now.value.table names_of c.units-units.result.now c.loop-unit.unit-index c.args.first c.loop-unit.now c.loop-unit-test.false c.loop-unit.invariant in
    record {
      answer = units_first class c.units-units.result.now c.units-units.ensures names_of (unit_names class.members)
          (λ u f own is. names_told class u f own is) class.analysis.value.table c.args.first c.loop-unit.now (rw c.analysis-a.ensures at all);
    }
