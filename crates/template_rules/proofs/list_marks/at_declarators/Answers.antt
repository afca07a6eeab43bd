use Rattle.offences.proofs.FirstLemmas.{then_none}
use Rattle.template_rules.specs.Marks.{declarator_marks}
use Rattle.template_rules.proofs.StepLemmas.{more_next, more_all}
use Rattle.template_rules.proofs.list_marks.at_declarators.Goals as goal

pub loop-list-init : goal.loop-list-init
loop-list-init c = then_none c.args.a.now.value.table c.args.first

pub loop-list-preserved : goal.loop-list-preserved
loop-list-preserved c =
    more_next c.args.a.now.value.table (declarator_marks c.args.unit.now.class.members c.args.a.now.value c.args.count c.args.unit.now.text.now.toks c.args.unit.now.text.now.reached c.args.unit.now.bound.now.names c.args.unit.now.lists) c.args.all.now c.loop-list.list-index c.list-item.result c.args.first c.loop-list.now c.at_declarator-now.result
    c.loop-list-test.true c.list-item.is c.loop-list.invariant c.at_declarator-now.ensures

pub returns : goal.returns
returns c =
    more_all c.args.a.now.value.table (declarator_marks c.args.unit.now.class.members c.args.a.now.value c.args.count c.args.unit.now.text.now.toks c.args.unit.now.text.now.reached c.args.unit.now.bound.now.names c.args.unit.now.lists) c.args.all.now c.loop-list.list-index c.args.first c.loop-list.now c.loop-list-test.false c.loop-list.invariant
