use Rattle.tree_laws.proofs.HeldNames.{bound_names_pass}
use Rattle.tree_laws.proofs.bound.bound_names_pass.Goals as goal

pub returns : goal.returns
returns c = bound_names_pass
