use Rattle.std.proofs.Common.{◌≡◌}
use Rattle.c_types.specs.Children.{from_child}
use Rattle.c_types.specs.Trees.{has_untagged}
use Rattle.c_types.proofs.trees.has_untagged.Given as goal

abbrev pub invariant-children : goal.invariant-children
invariant-children l = has_untagged (from_child l.k l.tree.under) ≡ has_untagged l.tree.under
