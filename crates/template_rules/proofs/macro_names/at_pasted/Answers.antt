use Rattle.offences.proofs.FirstLemmas.{then_none, then_next, then_all}
use Rattle.cs_base.specs.declared.causes.Cause.TheVariants as cause
use Rattle.template_rules.specs.MacroOffences.{pasted_place}
use Rattle.template_rules.proofs.macro_names.at_pasted.Goals as goal

pub loop-tok-init : goal.loop-tok-init
loop-tok-init c = then_none c.args.a.now.value.table c.args.first

pub loop-tok-preserved : goal.loop-tok-preserved
loop-tok-preserved c =
    then_next c.args.a.now.value.table cause.InMacro (pasted_place c.args.class.now.members) c.args.toks.now c.loop-tok.tok-index c.tok-item.result c.args.first c.loop-tok.now c.pasted_at-now.result
    c.loop-tok-test.true c.tok-item.is c.loop-tok.invariant c.pasted_at-now.ensures

pub returns : goal.returns
returns c =
    then_all c.args.a.now.value.table cause.InMacro (pasted_place c.args.class.now.members) c.args.toks.now c.loop-tok.tok-index c.args.first c.loop-tok.now
    c.loop-tok-test.false c.loop-tok.invariant
