use Rattle.tree_laws.proofs.LinkedNames.{linked_once}
use Rattle.tree_laws.proofs.bound.one_name_has_linkage.Goals as goal

pub returns : goal.returns
returns c = linked_once
