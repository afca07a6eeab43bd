use Rattle.std.proofs.Common.{length, ap, arith}
use Rattle.macro_expand.proofs.TracedLemmas.{origins-traced}
use Rattle.expansion_rows.proofs.expansion_texts.has_origins.Goals as goal

pub returns : goal.returns
returns c =
    origins-traced c.args.tok.now c.text.ensures.sound (λ k below. c.loop-k.invariant k (omega (arith, ap length c.text.ensures.answer, c.loop-k-test.false)))
