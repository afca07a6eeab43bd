use Rattle.tree_laws.proofs.OrderedNames.{bodies_in_text, bodies_apart}
use Rattle.tree_laws.proofs.bound.bodies_stand_apart.Goals as goal

pub returns : goal.returns
returns c = record { within = bodies_in_text; apart = bodies_apart }
