use Rattle.c99_grammar.proofs.AmongLemmas.{among-every}
use Rattle.c99_grammar.proofs.first_sets.starts_every.Goals as goal

pub returns : goal.returns
returns c = among-every c.args._class
