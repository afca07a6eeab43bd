use Rattle.rename_meaning.proofs.MadeLemmas.{headers_stay, tokens_are_made_anew}
use Rattle.rename_meaning.proofs.premises.tokens_are_made_anew.Goals as goal

pub returns : goal.returns
returns c = record { stay = headers_stay; made = tokens_are_made_anew }
