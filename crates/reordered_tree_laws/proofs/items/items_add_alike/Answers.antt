use Rattle.reordered_tree_laws.proofs.AddsAlike.{items_add_alike}
use Rattle.reordered_tree_laws.proofs.items.items_add_alike.Goals as goal

pub returns : goal.returns
returns c = items_add_alike
