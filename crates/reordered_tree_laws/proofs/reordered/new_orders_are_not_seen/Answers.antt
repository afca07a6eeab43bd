use Rattle.reordered_tree_laws.proofs.Seen.{orders_not_seen}
use Rattle.reordered_tree_laws.proofs.reordered.new_orders_are_not_seen.Goals as goal

pub returns : goal.returns
returns c = orders_not_seen
