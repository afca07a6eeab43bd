use Rattle.reordered_tree_laws.proofs.Spread.{items_add_their_tokens}
use Rattle.reordered_tree_laws.proofs.items.items_add_their_tokens.Goals as goal

pub returns : goal.returns
returns c = items_add_their_tokens
