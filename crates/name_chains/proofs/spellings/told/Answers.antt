use Rattle.name_chains.proofs.SpellingLemmas.{numbered-next}
use Rattle.name_chains.proofs.spellings.told.Goals as goal

pub toks-preserved : goal.toks-preserved
toks-preserved c = (
  numbered-next c.args.toks.now c.toks.tok-index c.tok-item.result c.toks.numbers.items c.push.new.self.items c.in_ok-number.number
      c.toks.spellings c.number_by.new.spellings c.text.result.now c.toks-test.true c.tok-item.is c.toks.invariant.0 c.text.ensures.answer
      c.in_ok-number.ensures.number c.in_ok-push.ensures.items,
  c.in_ok-number.ensures.signs,
)
