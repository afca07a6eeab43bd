use Rattle.gnu_tree_laws.proofs.GnuOnce.{entities_are_names}
use Rattle.gnu_tree_laws.proofs.names.gnu_entities_are_names.Goals as goal

pub returns : goal.returns
returns c = entities_are_names
