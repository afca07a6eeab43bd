use Rattle.edited_unit_laws.proofs.StepLaws.{conditions_go_alike, names_are_asked_alike}
use Rattle.edited_unit_laws.proofs.units.conditions_go_alike.Goals as goal

pub returns : goal.returns
returns c = record { values = conditions_go_alike; names = names_are_asked_alike }
