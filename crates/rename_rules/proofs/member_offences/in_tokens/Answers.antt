use Rattle.offences.proofs.FirstLemmas.{then_none, then_next, then_all}
use Rattle.rename_rules.specs.Tokens.{starts_in}
use Rattle.rename_rules.proofs.member_offences.in_tokens.Goals as goal

pub loop-tok-init : goal.loop-tok-init
loop-tok-init c = then_none c.args.a.now.value.table c.args.first

pub loop-tok-preserved : goal.loop-tok-preserved
loop-tok-preserved c =
    then_next c.args.a.now.value.table c.args.cause (starts_in c.args.class.now.members) c.args.toks.now c.loop-tok.tok-index c.tok-item.result c.args.first c.loop-tok.now c.in_token-now.result
    c.loop-tok-test.true c.tok-item.is c.loop-tok.invariant c.in_token-now.ensures

pub returns : goal.returns
returns c =
    then_all c.args.a.now.value.table c.args.cause (starts_in c.args.class.now.members) c.args.toks.now c.loop-tok.tok-index c.args.first c.loop-tok.now
    c.loop-tok-test.false c.loop-tok.invariant
