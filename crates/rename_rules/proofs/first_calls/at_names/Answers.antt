use Rattle.cs_base.specs.declared.causes.Cause.TheVariants as cause
use Rattle.rename_rules.specs.Undeclared.{call_place, is_declared}
use Rattle.offences.proofs.FirstLemmas.{then_none, then_next_or, then_all}
use Rattle.rename_rules.proofs.first_calls.at_names.Goals as goal

pub loop-name-init : goal.loop-name-init
loop-name-init c = then_none c.args.a.now.value.table c.args.first

pub loop-name-preserved : goal.loop-name-preserved
loop-name-preserved c =
    then_next_or c.args.a.now.value.table cause.Undeclared (call_place c.args.class.now.members (is_declared c.args.names.now c.args.project.now) c.args.toks.now) c.args.all.now c.loop-name.name-index _
    c.args.first c.loop-name.now c.at_name-now.result c.loop-name-test.true c.loop-name.invariant c.at_name-now.ensures

pub returns : goal.returns
returns c =
    then_all c.args.a.now.value.table cause.Undeclared (call_place c.args.class.now.members (is_declared c.args.names.now c.args.project.now) c.args.toks.now) c.args.all.now c.loop-name.name-index
    c.args.first c.loop-name.now c.loop-name-test.false c.loop-name.invariant
