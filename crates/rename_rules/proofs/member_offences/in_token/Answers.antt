use Rattle.std.proofs.Common.{◌<◌, length, arith}
use Rattle.rename_rules.specs.Tokens.{start_of}
use Rattle.offences.proofs.FirstLemmas.{then_none, then_all}
use Rattle.rename_rules.proofs.UnitLemmas.{origin_next}
use Rattle.rename_rules.proofs.member_offences.in_token.Goals as goal

pub loop-k-init : goal.loop-k-init
loop-k-init c = then_none c.args.a.now.value.table c.args.first

pub loop-k-preserved : goal.loop-k-preserved
loop-k-preserved c =
    let within : c.loop-k.k < length c.args.tok.now.origins = omega (arith, c.loop-k-test.true, c.length-count.ensures) in
    origin_next c.args.a.now.value.table c.args.cause (start_of c.args.class.now.members) c.args.tok.now c.loop-k.k c.args.first c.loop-k.now c.at_character-now.result
    within c.loop-k.invariant c.at_character-now.ensures

pub returns : goal.returns
returns c =
    then_all c.args.a.now.value.table c.args.cause (start_of c.args.class.now.members) c.args.tok.now.origins c.loop-k.k c.args.first c.loop-k.now
    (omega (arith, c.loop-k-test.false, c.length-count.ensures)) c.loop-k.invariant
