use Rattle.tree_laws.proofs.RenamedWalk.{renamed_bind_alike}
use Rattle.tree_laws.proofs.bound.renamed_names_bind_alike.Goals as goal

pub returns : goal.returns
returns c = renamed_bind_alike
