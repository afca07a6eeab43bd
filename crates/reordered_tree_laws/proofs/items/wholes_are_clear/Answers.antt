use Rattle.reordered_tree_laws.proofs.SiblingsBeside.{wholes_are_clear}
use Rattle.reordered_tree_laws.proofs.items.wholes_are_clear.Goals as goal

pub returns : goal.returns
returns c = wholes_are_clear
