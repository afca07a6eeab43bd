use Rattle.reordered_tree_laws.proofs.Owned.{parts_stay_own}
use Rattle.reordered_tree_laws.proofs.items.parts_stay_own.Goals as goal

pub returns : goal.returns
returns c = parts_stay_own
