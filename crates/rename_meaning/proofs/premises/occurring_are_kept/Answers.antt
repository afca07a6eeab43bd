use Rattle.rename_meaning.proofs.OccurringLemmas.{occurring_are_kept, file_tokens_occur, pasted_tokens_occur}
use Rattle.rename_meaning.proofs.premises.occurring_are_kept.Goals as goal

pub returns : goal.returns
returns c = record { kept = occurring_are_kept; files = file_tokens_occur; pasted = pasted_tokens_occur }
