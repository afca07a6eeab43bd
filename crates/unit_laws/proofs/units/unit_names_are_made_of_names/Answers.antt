use Rattle.unit_laws.proofs.NameLemmas.{unit_names_are_made}
use Rattle.unit_laws.proofs.units.unit_names_are_made_of_names.Goals as goal

pub returns : goal.returns
returns c = record { made = unit_names_are_made }
