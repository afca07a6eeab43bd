use Rattle.gnu_tree_laws.proofs.GnuSpelled.{names_pass}
use Rattle.gnu_tree_laws.proofs.names.gnu_names_pass.Goals as goal

pub returns : goal.returns
returns c = names_pass
