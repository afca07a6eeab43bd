use Rattle.tree_laws.proofs.OrderedNames.{names_apart}
use Rattle.tree_laws.proofs.bound.each_token_is_one_name.Goals as goal

pub returns : goal.returns
returns c = names_apart
