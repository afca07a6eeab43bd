use Rattle.template_rules.proofs.GnuLemmas.{no_brought}
use Rattle.template_rules.proofs.gnu_texts.at_brought.Goals as goal

pub returns-in-None : goal.returns-in-None
returns-in-None c =
    let past = c.in-None.ensures.lookup in
    no_brought c.args.a.now.value.table c.args.cause c.args.toks.now c.args.k c.args.first past.3
