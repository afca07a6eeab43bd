use Rattle.tree_laws.proofs.ToldWalk.{identifiers_told}
use Rattle.tree_laws.proofs.told.identifiers_are_told.Goals as goal

pub returns : goal.returns
returns c = identifiers_told c.each_token_is_one_name.ensures
