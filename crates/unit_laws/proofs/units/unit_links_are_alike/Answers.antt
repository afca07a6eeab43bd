use Rattle.unit_laws.proofs.TokenLemmas.{unit_links_are_alike}
use Rattle.unit_laws.proofs.units.unit_links_are_alike.Goals as goal

pub returns : goal.returns
returns c = record { alike = unit_links_are_alike }
