use Rattle.std.proofs.Common.{◌≡◌, ◌+◌, ◌*◌}
use Rattle.c99_tree.specs.Tree.{size_of}
use Rattle.c_types.specs.Children.{from_child}
use Rattle.c_types.specs.Trees.{name_below}
use Rattle.c_types.proofs.declarators.+name.Given as goal

abbrev pub decreases-name_below : goal.decreases-name_below
decreases-name_below l = 2 * size_of l.part.now.under + 1

abbrev pub decreases-name_at : goal.decreases-name_at
decreases-name_at l = 2 * size_of l.part.now.under

abbrev pub invariant-name_below-children : goal.invariant-name_below-children
invariant-name_below-children l = name_below l.part.label (from_child l.k l.part.under) ≡ name_below l.part.label l.part.under
