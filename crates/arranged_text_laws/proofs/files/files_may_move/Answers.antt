use Rattle.arranged_text_laws.proofs.MayLaw.{files_may_move}
use Rattle.arranged_text_laws.proofs.files.files_may_move.Goals as goal

pub returns : goal.returns
returns c = files_may_move
