use Rattle.c99_grammar.proofs.FirstLemmas.{first_sets}
use Rattle.c99_grammar.proofs.grammar_laws.first_sets_are_the_tables.Goals as goal

pub returns : goal.returns
returns c = first_sets
