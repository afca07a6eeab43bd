use Rattle.rename_rules.proofs.SpelledLemmas.{spelled_next, spelled_end}
use Rattle.rename_rules.proofs.spelling.spelled.Goals as goal

pub loop-k-preserved : goal.loop-k-preserved
loop-k-preserved c =
    rw c.in_ok-push_character.ensures
    (spelled_next c.args.class.now.members c.args.name.now c.args.tok.now c.text-text.result.now c.loop-k.out.items c.loop-k.k c.text-text.ensures.answer c.text-text.ensures.sound
    c.loop-k-test.true c.loop-k.invariant)

pub returns : goal.returns
returns c =
    spelled_end c.args.class.now.members c.args.name.now c.args.tok.now c.text-text.result.now c.loop-k.out.items c.loop-k.k c.text-text.ensures.answer c.loop-k-test.false c.loop-k.invariant
