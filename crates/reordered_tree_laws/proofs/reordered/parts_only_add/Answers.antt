use Rattle.reordered_tree_laws.proofs.OnlyAdding.{parts_only_add}
use Rattle.reordered_tree_laws.proofs.reordered.parts_only_add.Goals as goal

pub returns : goal.returns
returns c = parts_only_add
