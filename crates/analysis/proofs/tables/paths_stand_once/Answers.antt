use Rattle.analysis.proofs.OnceLemmas.{paths_once}
use Rattle.analysis.proofs.tables.paths_stand_once.Goals as goal

pub returns : goal.returns
returns c = paths_once
