use Rattle.std.proofs.Common.{◌≡◌, ◌+◌, ◌*◌, ℕ}
use Rattle.c99_tree.specs.Tree.{size_of}
use Rattle.c_types.specs.Children.{from_child}
use Rattle.c_types.specs.Trees.{last_token}
use Rattle.c_types.proofs.trees.+last.Given as goal

abbrev pub decreases-last_below : goal.decreases-last_below
decreases-last_below l = 2 * size_of l.tree.now.under + 1

abbrev pub decreases-last_at : goal.decreases-last_at
decreases-last_at l = 2 * size_of l.tree.now.under

abbrev pub invariant-last_below-children : goal.invariant-last_below-children
invariant-last_below-children l = (before : ℕ) → last_token (from_child l.k l.tree.under) before ≡ before

abbrev pub decreases-last_below-children : goal.decreases-last_below-children
decreases-last_below-children l = l.k
