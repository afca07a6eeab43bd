use Rattle.std.proofs.Common.{◌≡◌}
use Rattle.c_types.specs.Children.{from_child}
use Rattle.c_types.specs.Trees.{has_node}
use Rattle.c_types.proofs.trees.has_node.Given as goal

abbrev pub invariant-children : goal.invariant-children
invariant-children l = has_node l.production (from_child l.k l.tree.under) ≡ has_node l.production l.tree.under
