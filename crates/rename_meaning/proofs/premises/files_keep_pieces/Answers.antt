use Rattle.rename_meaning.proofs.KeptLemmas.{files_keep_pieces}
use Rattle.rename_meaning.proofs.premises.files_keep_pieces.Goals as goal

pub returns : goal.returns
returns c = files_keep_pieces
