use Rattle.reordered_tree_laws.proofs.BesideWalk.{parts_bind_alike}
use Rattle.reordered_tree_laws.proofs.reordered.parts_bind_alike.Goals as goal

pub returns : goal.returns
returns c = parts_bind_alike
