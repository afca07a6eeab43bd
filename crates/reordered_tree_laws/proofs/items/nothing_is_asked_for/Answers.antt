use Rattle.reordered_tree_laws.proofs.Spread.{nothing_is_asked_for}
use Rattle.reordered_tree_laws.proofs.items.nothing_is_asked_for.Goals as goal

pub returns : goal.returns
returns c = nothing_is_asked_for
