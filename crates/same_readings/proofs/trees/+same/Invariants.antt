use Rattle.std.proofs.Common.{◌≡◌, ◌+◌, ◌*◌}
use Rattle.c99_tree.specs.Tree.{size_of}
use Rattle.c_types.specs.Children.{from_child}
use Rattle.same_readings.specs.SameTrees.{same_forest}
use Rattle.same_readings.proofs.trees.+same.Given as goal

abbrev pub decreases-is_same_tree : goal.decreases-is_same_tree
decreases-is_same_tree l = 3 * size_of l.one.now.under + 2

abbrev pub decreases-are_same : goal.decreases-are_same
decreases-are_same l = 3 * size_of l.one.now.under + 1

abbrev pub decreases-is_same_at : goal.decreases-is_same_at
decreases-is_same_at l = 3 * size_of l.one.now.under

abbrev pub invariant-are_same-children : goal.invariant-are_same-children
invariant-are_same-children l = same_forest (from_child l.k l.one.under) (from_child l.k l.other.under) ≡ same_forest l.one.under l.other.under
