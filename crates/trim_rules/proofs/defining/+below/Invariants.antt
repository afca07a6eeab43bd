use Rattle.std.proofs.Common.{◌≡◌, ◌+◌, ◌*◌}
use Rattle.analysis.specs.Below.c99_tree.Tree.{size_of}
use Rattle.c_types.specs.Children.{from_child}
use Rattle.trim_rules.specs.Defining.{has_below}
use Rattle.trim_rules.proofs.defining.+below.Given as goal

abbrev pub decreases-has_below : goal.decreases-has_below
decreases-has_below l = 2 * size_of l.tree.now.under + 1

abbrev pub decreases-has_at : goal.decreases-has_at
decreases-has_at l = 2 * size_of l.tree.now.under

abbrev pub invariant-has_below-children : goal.invariant-has_below-children
invariant-has_below-children l = has_below l.production (from_child l.k l.tree.under) ≡ has_below l.production l.tree.under
