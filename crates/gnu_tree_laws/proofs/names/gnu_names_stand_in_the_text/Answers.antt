use Rattle.gnu_tree_laws.proofs.GnuSpelled.{names_in_text, faults_in_text}
use Rattle.gnu_tree_laws.proofs.names.gnu_names_stand_in_the_text.Goals as goal

pub returns : goal.returns
returns c = record { names = names_in_text; faults = faults_in_text }
