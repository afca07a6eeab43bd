use Rattle.template_rules.specs.Lists.{declarator_of}
use Rattle.template_rules.proofs.CountLemmas.{soonest-none, soonest-next_or, soonest-all}
use Rattle.template_rules.proofs.counting.with_names.Goals as goal

pub loop-name-init : goal.loop-name-init
loop-name-init c = soonest-none c.args.a.now.value.table c.args.best

pub loop-name-preserved : goal.loop-name-preserved
loop-name-preserved c =
    soonest-next_or c.args.a.now.value.table (declarator_of c.args.unit.now.class.members c.args.unit.now.text.now.toks c.args.unit.now.bound.now.names c.args.unit.now.lists) c.args.names.now
    c.loop-name.name-index _ c.args.best c.loop-name.now c.with_name-now.result c.loop-name-test.true c.loop-name.invariant c.with_name-now.ensures

pub returns : goal.returns
returns c =
    soonest-all c.args.a.now.value.table (declarator_of c.args.unit.now.class.members c.args.unit.now.text.now.toks c.args.unit.now.bound.now.names c.args.unit.now.lists) c.args.names.now
    c.loop-name.name-index c.args.best c.loop-name.now c.loop-name-test.false c.loop-name.invariant
