use Rattle.rename_rules.proofs.GnuLemmas.{no_word}
use Rattle.rename_rules.proofs.words_and_texts.in_word.Goals as goal

pub returns-in-None : goal.returns-in-None
returns-in-None c =
    let past = c.in-None.ensures.lookup in
    no_word c.args.a.now.value.table c.args.class.now.members c.args.bound.now.names c.args.toks.now c.args.k c.args.first past.3
