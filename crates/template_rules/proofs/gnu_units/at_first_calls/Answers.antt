use Rattle.std.proofs.Common.{◌++◌}
use Rattle.cs_base.specs.declared.causes.Cause.TheVariants as cause
use Rattle.template_rules.specs.GnuOffences.{first_call_place}
use Rattle.offences.proofs.FirstLemmas.{then_none, then_next_or, then_all}
use Rattle.template_rules.proofs.gnu_units.at_first_calls.Goals as goal

pub loop-name-init : goal.loop-name-init
loop-name-init c = then_none c.args.a.now.value.table c.args.first

pub loop-name-preserved : goal.loop-name-preserved
loop-name-preserved c =
    let unit = c.args.unit.now in
    then_next_or c.args.a.now.value.table cause.DeclarationInArgument
    (first_call_place unit.class.members unit.text.now.toks unit.bound.now.names (unit.bound.now.declarators ++ unit.bound.now.calls)) c.args.names.now
    c.loop-name.name-index _ c.args.first c.loop-name.now c.at_first_call-now.result c.loop-name-test.true c.loop-name.invariant c.at_first_call-now.ensures

pub returns : goal.returns
returns c =
    let unit = c.args.unit.now in
    then_all c.args.a.now.value.table cause.DeclarationInArgument
    (first_call_place unit.class.members unit.text.now.toks unit.bound.now.names (unit.bound.now.declarators ++ unit.bound.now.calls)) c.args.names.now
    c.loop-name.name-index c.args.first c.loop-name.now c.loop-name-test.false c.loop-name.invariant
