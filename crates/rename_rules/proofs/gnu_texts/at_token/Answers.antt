use Rattle.rename_rules.proofs.GnuLemmas.{no_place}
use Rattle.rename_rules.proofs.gnu_texts.at_token.Goals as goal

pub returns-in-None : goal.returns-in-None
returns-in-None c = let past = c.in-None.ensures.lookup in no_place c.args.a.now.value.table c.args.toks.now c.args.k c.args.first past.3
