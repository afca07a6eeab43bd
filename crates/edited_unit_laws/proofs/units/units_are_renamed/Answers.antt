use Rattle.edited_unit_laws.proofs.SeenLemmas.{unit_texts_are_renamed}
use Rattle.edited_unit_laws.proofs.UnitLemmas.{units_are_renamed}
use Rattle.edited_unit_laws.proofs.units.units_are_renamed.Goals as goal

pub returns : goal.returns
returns c = record { units = units_are_renamed; texts = unit_texts_are_renamed }
