use Rattle.reordered_tree_laws.proofs.SiblingsApart.{siblings_are_apart}
use Rattle.reordered_tree_laws.proofs.items.siblings_are_apart.Goals as goal

pub returns : goal.returns
returns c = siblings_are_apart
