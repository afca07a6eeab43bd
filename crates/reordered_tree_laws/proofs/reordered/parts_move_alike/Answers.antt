use Rattle.reordered_tree_laws.proofs.MovedWalk.{parts_move_alike}
use Rattle.reordered_tree_laws.proofs.reordered.parts_move_alike.Goals as goal

pub returns : goal.returns
returns c = parts_move_alike
