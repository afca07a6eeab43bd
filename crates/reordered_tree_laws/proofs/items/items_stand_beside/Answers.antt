use Rattle.reordered_tree_laws.proofs.SiblingsBeside.{items_stand_beside}
use Rattle.reordered_tree_laws.proofs.items.items_stand_beside.Goals as goal

pub returns : goal.returns
returns c = items_stand_beside
