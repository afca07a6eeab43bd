use Rattle.std.proofs.Common.{◌≡◌}
use Rattle.c_types.specs.Children.{from_child}
use Rattle.c_types.specs.Trees.{first_token}
use Rattle.gnu_bind.proofs.leaving.second_token.Given as goal

abbrev pub invariant-children : goal.invariant-children
invariant-children l = first_token (from_child l.k l.tree.under) 0 ≡ first_token (from_child 1 l.tree.under) 0
