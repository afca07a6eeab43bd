use Rattle.rename_meaning.proofs.SourceLemmas.{respelled_files_hold_edited}
use Rattle.rename_meaning.proofs.sources.respelled_files_hold_edited.Goals as goal

pub returns : goal.returns
returns c = respelled_files_hold_edited
