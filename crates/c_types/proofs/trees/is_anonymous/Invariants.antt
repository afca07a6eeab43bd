use Rattle.std.proofs.Common.{◌≡◌}
use Rattle.c_types.specs.Children.{from_child}
use Rattle.c_types.specs.Trees.{is_anonymous}
use Rattle.c_types.proofs.trees.is_anonymous.Given as goal

abbrev pub invariant-children : goal.invariant-children
invariant-children l = is_anonymous (from_child l.k l.tree.under) ≡ is_anonymous l.tree.under
