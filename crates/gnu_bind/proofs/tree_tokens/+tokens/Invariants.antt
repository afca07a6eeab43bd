use Rattle.std.proofs.Common.{◌+◌, ◌*◌}
use Rattle.c99_tree.specs.Tree.{size_of}
use Rattle.c_types.specs.Children.{from_child}
use Rattle.scope_bind.specs.Carried.{IsBelow}
use Rattle.gnu_bind.proofs.tree_tokens.+tokens.Given as goal

abbrev pub decreases-is_below : goal.decreases-is_below
decreases-is_below l = 2 * size_of l.tree.now.under + 1

abbrev pub decreases-is_below_at : goal.decreases-is_below_at
decreases-is_below_at l = 2 * size_of l.tree.now.under

-- those from child k on stand before it
abbrev pub invariant-is_below-children : goal.invariant-is_below-children
invariant-is_below-children l = IsBelow l.end (from_child l.k l.tree.under)

abbrev pub decreases-is_below-children : goal.decreases-is_below-children
decreases-is_below-children l = l.k
