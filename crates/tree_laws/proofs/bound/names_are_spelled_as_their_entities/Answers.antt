use Rattle.tree_laws.proofs.HeldNames.{spelled_as_entities}
use Rattle.tree_laws.proofs.bound.names_are_spelled_as_their_entities.Goals as goal

pub returns : goal.returns
returns c = spelled_as_entities
