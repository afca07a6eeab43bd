use Rattle.std.proofs.Common.{arith}
use Rattle.macro_rules.specs.Offences.{origin_offences}
use Rattle.macro_rules.proofs.WalkLemmas.{origins_next, origins_all}
use Rattle.macro_rules.proofs.token_offences.push_token.Goals as goal

pub loop-k-preserved : goal.loop-k-preserved
loop-k-preserved c =
    origins_next (origin_offences c.args.cause c.args.calls.now) c.args.tok.now c.loop-k.k c.args.out.now.items c.loop-k.out.items c.push_origin.new.out.items
    (omega (arith, c.loop-k-test.true, c.length-count.ensures)) c.loop-k.invariant c.in_ok-push_origin.ensures

pub returns : goal.returns
returns c =
    origins_all (origin_offences c.args.cause c.args.calls.now) c.args.tok.now c.loop-k.k c.args.out.now.items c.loop-k.out.items
    (omega (arith, c.loop-k-test.false, c.length-count.ensures)) c.loop-k.invariant
