use Rattle.edited_unit_laws.proofs.StepLaws.{definitions_go_alike, undefinitions_go_alike}
use Rattle.edited_unit_laws.proofs.units.definitions_keep_macros.Goals as goal

pub returns : goal.returns
returns c = record { defined = definitions_go_alike; undefined = undefinitions_go_alike }
