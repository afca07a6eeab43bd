use Rattle.gnu_tree_laws.proofs.GnuSpelled.{spelled_as_entities}
use Rattle.gnu_tree_laws.proofs.names.gnu_names_are_spelled_as_their_entities.Goals as goal

pub returns : goal.returns
returns c = spelled_as_entities
