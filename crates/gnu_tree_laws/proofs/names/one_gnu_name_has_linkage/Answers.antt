use Rattle.gnu_tree_laws.proofs.GnuLinked.{linked_once}
use Rattle.gnu_tree_laws.proofs.names.one_gnu_name_has_linkage.Goals as goal

pub returns : goal.returns
returns c = linked_once
