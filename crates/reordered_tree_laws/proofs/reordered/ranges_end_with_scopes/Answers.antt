use Rattle.reordered_tree_laws.proofs.Ranges.{ranges_end_with_scopes}
use Rattle.reordered_tree_laws.proofs.reordered.ranges_end_with_scopes.Goals as goal

pub returns : goal.returns
returns c = ranges_end_with_scopes
