use Rattle.rename_meaning.proofs.TextLemmas.{respelled_files_have_renamed_texts}
use Rattle.rename_meaning.proofs.sources.respelled_files_have_renamed_texts.Goals as goal

pub returns : goal.returns
returns c = respelled_files_have_renamed_texts
