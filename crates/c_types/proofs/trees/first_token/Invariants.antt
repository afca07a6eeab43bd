use Rattle.std.proofs.Common.{◌≡◌}
use Rattle.c_types.specs.Children.{from_child}
use Rattle.c_types.specs.Trees.{first_token}
use Rattle.c_types.proofs.trees.first_token.Given as goal

abbrev pub invariant-children : goal.invariant-children
invariant-children l = first_token (from_child l.k l.tree.under) l.other ≡ first_token l.tree.under l.other
