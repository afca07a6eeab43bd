use Rattle.rename_meaning.proofs.ProcessedLemmas.{words_are_free_where_named}
use Rattle.rename_meaning.proofs.premises.words_are_free_where_named.Goals as goal

pub returns : goal.returns
returns c = words_are_free_where_named
