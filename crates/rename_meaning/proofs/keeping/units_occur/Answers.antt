use Rattle.rename_meaning.proofs.OccurLemmas.{units_occur}
use Rattle.rename_meaning.proofs.keeping.units_occur.Goals as goal

pub returns : goal.returns
returns c = units_occur
