use Rattle.rename_meaning.proofs.KeptTokenLemmas.{tokens_are_kept, pasted_tokens_are_kept}
use Rattle.rename_meaning.proofs.premises.tokens_are_kept.Goals as goal

pub returns : goal.returns
returns c = record { files = tokens_are_kept; pasted = pasted_tokens_are_kept }
