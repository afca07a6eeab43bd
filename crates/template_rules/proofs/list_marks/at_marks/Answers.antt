use Rattle.std.proofs.Common.{ap}
use Rattle.std.specs.List.{flat_map}
use Rattle.offences.proofs.FirstLemmas.{then_none, then_both}
use Rattle.template_rules.specs.Marks.{declarator_marks, call_marks, unit_marks}
use Rattle.template_rules.proofs.StepLemmas.{more_next, more_all}
use Rattle.template_rules.proofs.UnitLemmas.{marks_of, marks_told, units_first}
use Rattle.template_rules.proofs.list_marks.at_marks.Goals as goal

pub loop-unit-init : goal.loop-unit-init
loop-unit-init c = then_none c.analysis-a.result.now.value.table c.args.first

pub loop-unit-preserved : goal.loop-unit-preserved
loop-unit-preserved c =
    let f = c.unit-item.result in
    more_next c.analysis-a.result.now.value.table (marks_of c.analysis-a.result.now.value c.args.count) c.units-units.result.now c.loop-unit.unit-index f c.args.first c.loop-unit.now c.at_calls-now.result
    c.loop-unit-test.true c.unit-item.is c.loop-unit.invariant
    (then_both c.analysis-a.result.now.value.table
    (flat_map (declarator_marks f.class.members c.analysis-a.result.now.value c.args.count f.text.now.toks f.text.now.reached f.bound.now.names f.lists) f.bound.now.declarators)
    (flat_map (call_marks f.class.members c.analysis-a.result.now.value c.args.count f.text.now.toks f.text.now.reached f.bound.now.names) f.bound.now.calls)
    c.loop-unit.now c.at_declarators-declared.result c.at_calls-now.result (rw c.declarators.ensures at c.at_declarators-declared.ensures) (rw c.calls.ensures at c.at_calls-now.ensures))

pub returns : goal.returns
returns c =
    let class = c.args.functions.now in
    let all = more_all c.analysis-a.result.now.value.table (marks_of c.analysis-a.result.now.value c.args.count) c.units-units.result.now c.loop-unit.unit-index c.args.first c.loop-unit.now c.loop-unit-test.false c.loop-unit.invariant in
    record {
      answer = units_first class c.units-units.result.now c.units-units.ensures (marks_of class.analysis.value c.args.count) (unit_marks class.members class.analysis.value c.args.count)
          (λ u f own is. marks_told class u f own is class.analysis.value c.args.count) class.analysis.value.table c.args.first c.loop-unit.now (rw c.analysis-a.ensures at all);
    }
