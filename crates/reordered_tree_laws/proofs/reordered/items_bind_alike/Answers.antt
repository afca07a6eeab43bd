use Rattle.reordered_tree_laws.proofs.ItemLemmas.{items_bind_alike}
use Rattle.reordered_tree_laws.proofs.reordered.items_bind_alike.Goals as goal

pub returns : goal.returns
returns c = items_bind_alike
