use Rattle.std.proofs.Common.{◌≡◌, ◌+◌, ◌*◌, ◌++◌}
use Rattle.c99_tree.specs.Tree.{size_of}
use Rattle.c_types.specs.Children.{from_child}
use Rattle.c_types.specs.Parameters.{parameters_in}
use Rattle.c_types.proofs.parameters.+parameters.Given as goal

abbrev pub decreases-push_parameters : goal.decreases-push_parameters
decreases-push_parameters l = 2 * size_of l.tree.now.under + 1

abbrev pub decreases-push_parameters_at : goal.decreases-push_parameters_at
decreases-push_parameters_at l = 2 * size_of l.tree.now.under

abbrev pub invariant-push_parameters-children : goal.invariant-push_parameters-children
invariant-push_parameters-children l = l.out.items ++ parameters_in (from_child l.k l.tree.under) ≡ l.initial.out.items ++ parameters_in l.tree.under
