use Rattle.arranged_text_laws.proofs.FileLemmas.{files_are_arranged}
use Rattle.arranged_text_laws.proofs.texts.files_are_arranged.Goals as goal

pub returns : goal.returns
returns c = files_are_arranged
