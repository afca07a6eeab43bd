use Rattle.cs_base.specs.declared.causes.Cause.TheVariants as cause
use Rattle.rename_rules.specs.GnuTexts.{word_place_in}
use Rattle.offences.proofs.FirstLemmas.{then_none, then_next_or, then_all}
use Rattle.rename_rules.proofs.words_and_texts.in_words.Goals as goal

pub loop-k-init : goal.loop-k-init
loop-k-init c = then_none c.args.a.now.value.table c.args.first

pub loop-k-preserved : goal.loop-k-preserved
loop-k-preserved c =
    then_next_or c.args.a.now.value.table cause.Reserved (word_place_in c.args.class.now.members c.args.bound.now.names c.args.toks.now) c.args.places.now c.loop-k.k-index _ c.args.first c.loop-k.now c.in_word-now.result
    c.loop-k-test.true c.loop-k.invariant c.in_word-now.ensures

pub returns : goal.returns
returns c =
    then_all c.args.a.now.value.table cause.Reserved (word_place_in c.args.class.now.members c.args.bound.now.names c.args.toks.now) c.args.places.now c.loop-k.k-index c.args.first c.loop-k.now
    c.loop-k-test.false c.loop-k.invariant
