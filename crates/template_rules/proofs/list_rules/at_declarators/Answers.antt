use Rattle.offences.proofs.FirstLemmas.{then_none}
use Rattle.template_rules.specs.LineOffences.{odd_positions}
use Rattle.template_rules.specs.Offences.{declarator_offences}
use Rattle.template_rules.proofs.StepLemmas.{more_next, more_all}
use Rattle.template_rules.proofs.list_rules.at_declarators.Goals as goal

pub loop-list-init : goal.loop-list-init
loop-list-init c = (then_none c.args.functions.now.analysis.value.table c.args.first, c.all_units-near.ensures, c.nothing_known-known.ensures c.args.functions.now c.args.unit.now.text.now.toks)

pub loop-list-preserved : goal.loop-list-preserved
loop-list-preserved c =
    let class = c.args.functions.now in (
      more_next class.analysis.value.table (declarator_offences class.members class.analysis.value (odd_positions class.analysis.value.table) c.args.unit.now.text.now c.args.unit.now.bound.now c.args.unit.now.lists)
          c.args.all.now c.loop-list.list-index c.list-item.result c.args.first c.loop-list.now c.declarator_at-now.result
          c.loop-list-test.true c.list-item.is c.loop-list.invariant.0 c.declarator_at-now.ensures,
      c.units_at-near.ensures,
      c.known_at-known.ensures,
    )

pub returns : goal.returns
returns c =
    let class = c.args.functions.now in
    more_all class.analysis.value.table (declarator_offences class.members class.analysis.value (odd_positions class.analysis.value.table) c.args.unit.now.text.now c.args.unit.now.bound.now c.args.unit.now.lists)
    c.args.all.now c.loop-list.list-index c.args.first c.loop-list.now c.loop-list-test.false c.loop-list.invariant.0
