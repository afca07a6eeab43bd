use Rattle.reordered_tree_laws.proofs.Adding.{parts_add_beside}
use Rattle.reordered_tree_laws.proofs.reordered.parts_add_beside.Goals as goal

pub returns : goal.returns
returns c = parts_add_beside
