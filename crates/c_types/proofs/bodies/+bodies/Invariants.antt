use Rattle.std.proofs.Common.{◌≡◌, ◌+◌, ◌*◌, ◌++◌}
use Rattle.c99_tree.specs.Tree.{size_of}
use Rattle.c_types.specs.Children.{from_child}
use Rattle.c_types.specs.Lists.{bodies_in}
use Rattle.c_types.proofs.bodies.+bodies.Given as goal

abbrev pub decreases-push_bodies : goal.decreases-push_bodies
decreases-push_bodies l = 2 * size_of l.tree.now.under + 1

abbrev pub decreases-push_bodies_at : goal.decreases-push_bodies_at
decreases-push_bodies_at l = 2 * size_of l.tree.now.under

abbrev pub invariant-push_bodies-children : goal.invariant-push_bodies-children
invariant-push_bodies-children l = l.out.items ++ bodies_in (from_child l.k l.tree.under) ≡ l.initial.out.items ++ bodies_in l.tree.under
