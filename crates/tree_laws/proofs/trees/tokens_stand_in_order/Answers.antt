use Rattle.tree_laws.proofs.Ordered.{in_order, all_tokens}
use Rattle.tree_laws.proofs.trees.tokens_stand_in_order.Goals as goal

pub returns : goal.returns
returns c = record { order = in_order; all = all_tokens }
