use Rattle.tree_laws.proofs.EntityNames.{entities_are_names}
use Rattle.tree_laws.proofs.bound.entities_are_names.Goals as goal

pub returns : goal.returns
returns c = entities_are_names
