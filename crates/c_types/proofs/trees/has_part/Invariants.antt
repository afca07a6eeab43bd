use Rattle.std.proofs.Common.{◌≡◌}
use Rattle.c_types.specs.Children.{from_child}
use Rattle.c_types.specs.Trees.{has_at}
use Rattle.c_types.proofs.trees.has_part.Given as goal

abbrev pub invariant-children : goal.invariant-children
invariant-children l = has_at l.production l.alternative (from_child l.k l.tree.under) ≡ has_at l.production l.alternative l.tree.under
