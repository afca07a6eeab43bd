use Rattle.edited_unit_laws.proofs.StepLaws.{files_go_alike}
use Rattle.edited_unit_laws.proofs.units.files_go_alike.Goals as goal

pub returns : goal.returns
returns c = record { files = files_go_alike }
