use Rattle.cs_base.specs.declared.causes.Cause.TheVariants as cause
use Rattle.offences.specs.First.{standing}
use Rattle.offences.proofs.FirstLemmas.{then_both}
use Rattle.template_rules.specs.NameOffences.{no_prototype_place, value_place}
use Rattle.template_rules.proofs.names.at_name.Goals as goal

pub returns : goal.returns
returns c =
    then_both c.args.a.now.value.table
    (standing cause.NoPrototype (no_prototype_place c.args.unit.now.class.members c.args.unit.now.text.now.toks c.args.unit.now.bound.now.names c.args.unit.now.lists c.args.name))
    (standing cause.FunctionAsValue (value_place c.args.unit.now.class.members c.args.unit.now.text.now.toks c.args.unit.now.bound.now.names c.args.unit.now.bound.now.calls c.args.name))
    c.args.first c.no_prototype_at-lacking.result c.value_at.result c.no_prototype_at-lacking.ensures c.value_at.ensures
