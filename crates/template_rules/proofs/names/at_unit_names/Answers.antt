use Rattle.offences.proofs.FirstLemmas.{then_none}
use Rattle.template_rules.specs.NameOffences.{name_offences}
use Rattle.template_rules.proofs.StepLemmas.{more_next_or, more_all}
use Rattle.template_rules.proofs.names.at_unit_names.Goals as goal

pub loop-name-init : goal.loop-name-init
loop-name-init c = then_none c.args.a.now.value.table c.args.first

pub loop-name-preserved : goal.loop-name-preserved
loop-name-preserved c =
    more_next_or c.args.a.now.value.table (name_offences c.args.unit.now.class.members c.args.unit.now.text.now.toks c.args.unit.now.bound.now.names c.args.unit.now.bound.now.calls c.args.unit.now.lists)
    c.args.names.now c.loop-name.name-index _ c.args.first c.loop-name.now c.at_name-now.result c.loop-name-test.true c.loop-name.invariant c.at_name-now.ensures

pub returns : goal.returns
returns c =
    more_all c.args.a.now.value.table (name_offences c.args.unit.now.class.members c.args.unit.now.text.now.toks c.args.unit.now.bound.now.names c.args.unit.now.bound.now.calls c.args.unit.now.lists)
    c.args.names.now c.loop-name.name-index c.args.first c.loop-name.now c.loop-name-test.false c.loop-name.invariant
