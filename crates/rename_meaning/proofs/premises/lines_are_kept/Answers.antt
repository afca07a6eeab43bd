use Rattle.rename_meaning.proofs.KeptLineLemmas.{lines_are_kept}
use Rattle.rename_meaning.proofs.premises.lines_are_kept.Goals as goal

pub returns : goal.returns
returns c = lines_are_kept
