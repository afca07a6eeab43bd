use Rattle.rename_meaning.proofs.TextLemmas.{respelled_files_keep_external_names}
use Rattle.rename_meaning.proofs.sources.respelled_files_keep_external_names.Goals as goal

pub returns : goal.returns
returns c = respelled_files_keep_external_names
