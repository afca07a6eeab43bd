use Rattle.edited_unit_laws.proofs.TextLemmas.{texts_are_renamed}
use Rattle.edited_unit_laws.proofs.units.runs_go_alike.Goals as goal

pub returns : goal.returns
returns c = record { texts = texts_are_renamed }
