use Rattle.std.proofs.Common.{◌≡◌, ◌<◌, length, get_or, sym, ap, arith}
use Rattle.offences.proofs.TokLemmas.{spell_more, spell_end, trace_more, trace_end}
use Rattle.offences.proofs.respelled_toks.respell.Goals as goal

pub loop-k-preserved : goal.loop-k-preserved
loop-k-preserved c =
    let k = c.loop-k.k in
    let t = c.args.tok.now in
    let chars = c.args.chars.now in
    let same : length chars ≡ length t.text = ap length c.requires.same in
    let less : k < length t.text = omega (arith, same, c.loop-k-test.true) in
    let byte : get_or t.text k 0 ≡ get_or chars k 0 = ap (λ cs. get_or cs k 0) (sym c.requires.same) in
    record {
      text = spell_more c.args.moves.now t c.requires.sound k (get_or chars k 0) c.origins.result less byte c.origins.ensures.answer
          _ c.loop-k.text.items c.push_for.new.text.items c.loop-k.invariant.text c.in_ok-push_for.ensures.text;
      origins = trace_more c.args.moves.now t c.requires.sound k (get_or chars k 0) c.origins.result less byte c.origins.ensures.answer
          _ c.loop-k.origins.items c.push_for.new.origins.items c.loop-k.invariant.origins c.in_ok-push_for.ensures.origins;
    }

pub returns-clause-text : goal.returns-clause-text
returns-clause-text c =
    let same : length c.args.chars.now ≡ length c.args.tok.now.text = ap length c.requires.same in
    spell_end c.args.moves.now c.args.tok.now c.loop-k.k _ c.loop-k.text.items c.requires.sound (omega (arith, same, c.loop-k-test.false)) c.loop-k.invariant.text

pub returns-clause-origins : goal.returns-clause-origins
returns-clause-origins c =
    let same : length c.args.chars.now ≡ length c.args.tok.now.text = ap length c.requires.same in
    trace_end c.args.moves.now c.args.tok.now c.loop-k.k _ c.loop-k.origins.items c.requires.sound (omega (arith, same, c.loop-k-test.false)) c.loop-k.invariant.origins
