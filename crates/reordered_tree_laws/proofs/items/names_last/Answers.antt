use Rattle.reordered_tree_laws.proofs.Quiet.{names_last}
use Rattle.reordered_tree_laws.proofs.items.names_last.Goals as goal

pub returns : goal.returns
returns c = names_last
