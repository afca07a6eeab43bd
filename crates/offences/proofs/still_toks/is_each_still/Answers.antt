use Rattle.std.proofs.Common.{◌≡◌, ◌<◌, length, get_or, refl, ap, arith}
use Rattle.offences.proofs.StillLemmas.{still_end, still_more}
use Rattle.offences.proofs.still_toks.is_each_still.Goals as goal

pub loop-k-preserved : goal.loop-k-preserved
loop-k-preserved c =
    let k = c.loop-k.k in
    let t = c.args.tok.now in
    let chars = c.args.chars.now in
    let same : length chars ≡ length t.text = ap length c.requires.same in
    let less : k < length t.text = omega (arith, same, c.loop-k-test.true) in
    λ rest. c.loop-k.invariant (still_more c.args.moves.now t c.requires.sound k (get_or t.text k 0) c.origins.result less refl c.origins.ensures.answer (c.if-not-is_still.ensures refl) rest)

pub returns : goal.returns
returns c =
    let same : length c.args.chars.now ≡ length c.args.tok.now.text = ap length c.requires.same in
    λ h. c.loop-k.invariant (still_end c.args.moves.now c.args.tok.now c.loop-k.k c.requires.sound (omega (arith, same, c.loop-k-test.false)))
