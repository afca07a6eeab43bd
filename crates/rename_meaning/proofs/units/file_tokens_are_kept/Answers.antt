use Rattle.rename_meaning.proofs.KeptFileTokenLemmas.{file_tokens_are_kept}
use Rattle.rename_meaning.proofs.units.file_tokens_are_kept.Goals as goal

pub returns : goal.returns
returns c = file_tokens_are_kept
