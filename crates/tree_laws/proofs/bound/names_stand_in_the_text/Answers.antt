use Rattle.tree_laws.proofs.HeldNames.{names_in_text, faults_in_text}
use Rattle.tree_laws.proofs.bound.names_stand_in_the_text.Goals as goal

pub returns : goal.returns
returns c = record { names = names_in_text; faults = faults_in_text }
