use Rattle.rename_meaning.proofs.KeptUnitLemmas.{units_are_kept}
use Rattle.rename_meaning.proofs.units.units_are_kept.Goals as goal

pub returns : goal.returns
returns c = units_are_kept
