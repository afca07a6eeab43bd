use Rattle.include_tree.proofs.DepthLemmas.{depth_is_a_limit}
use Rattle.include_tree.proofs.laws.depth_is_a_limit.Goals as goal

pub returns : goal.returns
returns c = record { depth = depth_is_a_limit }
