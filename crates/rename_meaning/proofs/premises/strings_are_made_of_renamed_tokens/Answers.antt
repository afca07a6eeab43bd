use Rattle.rename_meaning.proofs.MadeLemmas as made
use Rattle.rename_meaning.proofs.premises.strings_are_made_of_renamed_tokens.Goals as goal

pub returns : goal.returns
returns c = made.strings_are_made_of_renamed_tokens
