use Rattle.unit_laws.proofs.ReorderedUnitLemmas.{units_go_alike}
use Rattle.unit_laws.proofs.reordered.units_go_alike.Goals as goal

pub returns : goal.returns
returns c = record { alike = units_go_alike }
