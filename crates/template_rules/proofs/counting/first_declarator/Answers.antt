use Rattle.std.proofs.Common.{None, List, ap, ◌∙◌}
use Rattle.template_rules.specs.declared.counting.Declarator.{Declarator}
use Rattle.template_rules.specs.Lists.{declarators_in, soonest}
use Rattle.template_rules.proofs.CountLemmas.{soonest-none, soonest-next, soonest-all}
use Rattle.template_rules.proofs.UnitLemmas.{declarators_of, declarators_told, units_flat_map}
use Rattle.template_rules.proofs.counting.first_declarator.Goals as goal

pub loop-unit-init : goal.loop-unit-init
loop-unit-init c = soonest-none c.analysis-a.result.now.value.table None

pub loop-unit-preserved : goal.loop-unit-preserved
loop-unit-preserved c =
    soonest-next c.analysis-a.result.now.value.table declarators_of c.units-units.result.now c.loop-unit.unit-index c.unit-item.result None c.loop-unit.best c.with_names-best.result
    c.loop-unit-test.true c.unit-item.is c.loop-unit.invariant (rw c.names.ensures at c.with_names-best.ensures)

pub returns : goal.returns
returns c =
    let class = c.args.functions.now in
    let all = soonest-all c.analysis-a.result.now.value.table declarators_of c.units-units.result.now c.loop-unit.unit-index None c.loop-unit.best c.loop-unit-test.false c.loop-unit.invariant in
    let same = units_flat_map class c.units-units.result.now c.units-units.ensures declarators_of (declarators_in class.members) (declarators_told class) in
    (rw c.analysis-a.ensures at all) ∙ ap (λ (ds : List Declarator). soonest class.analysis.value.table None ds) same
