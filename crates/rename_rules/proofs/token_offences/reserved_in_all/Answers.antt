use Rattle.offences.proofs.FirstLemmas.{then_none, then_next, then_all}
use Rattle.cs_base.specs.declared.causes.Cause.TheVariants as cause
use Rattle.rename_rules.specs.Offences.{reserved_place}
use Rattle.rename_rules.proofs.token_offences.reserved_in_all.Goals as goal

pub loop-tok-init : goal.loop-tok-init
loop-tok-init c = then_none c.args.a.now.value.table c.args.first

pub loop-tok-preserved : goal.loop-tok-preserved
loop-tok-preserved c =
    then_next c.args.a.now.value.table cause.Reserved (reserved_place c.args.gnu c.args.class.now.members c.args.name.now) c.args.toks.now c.loop-tok.tok-index c.tok-item.result c.args.first c.loop-tok.now _
    c.loop-tok-test.true c.tok-item.is c.loop-tok.invariant c.in_ok-now.ensures

pub returns : goal.returns
returns c =
    then_all c.args.a.now.value.table cause.Reserved (reserved_place c.args.gnu c.args.class.now.members c.args.name.now) c.args.toks.now c.loop-tok.tok-index c.args.first c.loop-tok.now
    c.loop-tok-test.false c.loop-tok.invariant
