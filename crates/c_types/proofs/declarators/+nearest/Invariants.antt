use Rattle.std.proofs.Common.{◌≡◌, ◌+◌, ◌*◌}
use Rattle.c99_tree.specs.Tree.{size_of}
use Rattle.c_types.specs.Children.{from_child}
use Rattle.c_types.specs.Lists.{nearest_of}
use Rattle.c_types.proofs.FrontLemmas.{or_pointer}
use Rattle.c_types.proofs.declarators.+nearest.Given as goal

abbrev pub decreases-nearest : goal.decreases-nearest
decreases-nearest l = 2 * size_of l.declarator.now.under + 1

abbrev pub decreases-nearest_at : goal.decreases-nearest_at
decreases-nearest_at l = 2 * size_of l.tree.now.under

abbrev pub invariant-nearest-parts : goal.invariant-nearest-parts
invariant-nearest-parts l = or_pointer l.pointed (nearest_of (from_child l.k l.declarator.under)) ≡ nearest_of l.declarator.under
