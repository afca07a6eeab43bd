use Rattle.unit_laws.proofs.ToldLemmas.{replacing_macros_are_linked, told_names_are_linked}
use Rattle.unit_laws.proofs.names.told_names_are_linked.Goals as goal

pub returns : goal.returns
returns c = record { told = told_names_are_linked; replaced = replacing_macros_are_linked }
