use Rattle.edited_unit_laws.proofs.StepLaws.{inclusions_go_alike}
use Rattle.edited_unit_laws.proofs.units.inclusions_go_alike.Goals as goal

pub returns : goal.returns
returns c = record { included = inclusions_go_alike }
