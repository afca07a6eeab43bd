use Rattle.std.proofs.Common.{◌≡◌, ap, sym, ◌∙◌}
use Rattle.std.specs.List.{flat_map}
use Rattle.std.proofs.lemmas.Option.{slice_get-get_or}
use Rattle.offences.proofs.FirstLemmas.{then_none, then_both}
use Rattle.template_rules.specs.LineOffences.{odd_positions}
use Rattle.template_rules.specs.Offences.{declarator_offences, call_offences, unit_lists}
use Rattle.template_rules.proofs.StepLemmas.{more_next, more_all}
use Rattle.template_rules.proofs.UnitLemmas.{offences_at, offences_told, units_first, unit_own}
use Rattle.template_rules.proofs.list_rules.at_lists.Goals as goal

pub loop-unit-init : goal.loop-unit-init
loop-unit-init c = then_none c.args.functions.now.analysis.value.table c.args.first

pub at_declarators-declared-requires : goal.at_declarators-declared-requires
at_declarators-declared-requires c = record {
  class = unit_own c.args.functions.now c.units-units.result.now c.units-units.ensures c.loop-unit.unit-index c.unit-item.result c.loop-unit-test.true c.unit-item.is;
  odds = rw c.analysis.ensures at c.in_ok-odds.ensures;
}

pub at_calls-now-requires : goal.at_calls-now-requires
at_calls-now-requires c = record {
  class = unit_own c.args.functions.now c.units-units.result.now c.units-units.ensures c.loop-unit.unit-index c.unit-item.result c.loop-unit-test.true c.unit-item.is;
  odds = rw c.analysis.ensures at c.in_ok-odds.ensures;
}

pub loop-unit-preserved : goal.loop-unit-preserved
loop-unit-preserved c =
    let class = c.args.functions.now in
    let a = class.analysis.value in
    let odds = odd_positions a.table in
    let f = c.unit-item.result in
    more_next a.table (offences_at class odds) c.units-units.result.now c.loop-unit.unit-index f c.args.first c.loop-unit.now c.at_calls-now.result
    c.loop-unit-test.true c.unit-item.is c.loop-unit.invariant
    (then_both a.table
    (flat_map (declarator_offences class.members a odds f.text.now f.bound.now f.lists) f.bound.now.declarators)
    (flat_map (call_offences class.members a odds f.text.now f.bound.now f.ends.items) f.bound.now.calls)
    c.loop-unit.now c.at_declarators-declared.result c.at_calls-now.result
    (rw c.declarators.ensures at c.at_declarators-declared.ensures)
    (rw (c.calls.ensures, c.deref.ensures.value) at c.at_calls-now.ensures))

pub returns : goal.returns
returns c =
    let class = c.args.functions.now in
    let odds = odd_positions class.analysis.value.table in
    let all = more_all class.analysis.value.table (offences_at class odds) c.units-units.result.now c.loop-unit.unit-index c.args.first c.loop-unit.now c.loop-unit-test.false c.loop-unit.invariant in
    record {
      answer = units_first class c.units-units.result.now c.units-units.ensures (offences_at class odds) (unit_lists class.members class.analysis.value odds)
          (λ u f own is. offences_told class u f own is odds) class.analysis.value.table c.args.first c.loop-unit.now all;
    }
