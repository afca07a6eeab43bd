use Rattle.rename_meaning.proofs.KeptNameLemmas.{told_names_are_kept}
use Rattle.rename_meaning.proofs.keeping.told_names_are_kept.Goals as goal

pub returns : goal.returns
returns c = told_names_are_kept
