use Rattle.analysis.proofs.MadeLemmas.{made_files_pseudo}
use Rattle.analysis.proofs.tables.made_files_are_pseudo.Goals as goal

pub returns : goal.returns
returns c = made_files_pseudo
