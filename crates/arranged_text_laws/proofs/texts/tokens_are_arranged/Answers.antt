use Rattle.arranged_text_laws.proofs.TokenLaw.{tokens_of_files_are_arranged}
use Rattle.arranged_text_laws.proofs.texts.tokens_are_arranged.Goals as goal

pub returns : goal.returns
returns c = tokens_of_files_are_arranged
