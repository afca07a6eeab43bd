use Rattle.std.proofs.Common.{◌<◌, length, refl, arith, sym, true≢false, ◌∙◌}
use Rattle.offences.proofs.OriginLemmas.{origin_any, origin_none, origins_none}
use Rattle.offences.proofs.classes.holds_member.Goals as goal

pub loop-k-init : goal.loop-k-init
loop-k-init c = (refl, λ p held. absurd (true≢false (sym held ∙ c.no_part-apart.ensures p)))

pub comes_from-requires : goal.comes_from-requires
comes_from-requires c = c.loop-k.invariant.1

pub returns-then-comes_from : goal.returns-then-comes_from
returns-then-comes_from c =
    let within : c.loop-k.k < length c.args.tok.now.origins = omega (arith, c.loop-k-test.true, c.length-count.ensures) in
    sym (origin_any c.args.class.now.members c.args.tok.now c.loop-k.k within (sym c.if-comes_from.ensures.answer))

pub loop-k-preserved : goal.loop-k-preserved
loop-k-preserved c =
    let within : c.loop-k.k < length c.args.tok.now.origins = omega (arith, c.loop-k-test.true, c.length-count.ensures) in
    (origin_none c.args.class.now.members c.args.tok.now c.loop-k.k within c.loop-k.invariant.0 (sym c.if-comes_from.ensures.answer), c.if-comes_from.ensures.apart)

pub returns : goal.returns
returns c = sym (origins_none c.args.class.now.members c.args.tok.now c.loop-k.k (omega (arith, c.loop-k-test.false, c.length-count.ensures)) c.loop-k.invariant.0)
