use Rattle.rename_meaning.proofs.KeptFileTokenLemmas.{file_tokens_are_renamed_where_named}
use Rattle.rename_meaning.proofs.units.file_tokens_are_renamed_where_named.Goals as goal

pub returns : goal.returns
returns c = file_tokens_are_renamed_where_named
