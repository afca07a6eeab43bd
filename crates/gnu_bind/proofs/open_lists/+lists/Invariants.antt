use Rattle.std.proofs.Common.{◌≡◌, ◌+◌, ◌*◌}
use Rattle.c99_tree.specs.Tree.{size_of}
use Rattle.c_types.specs.Children.{from_child}
use Rattle.gnu_bind.specs.OpenLists.{open_list}
use Rattle.gnu_bind.proofs.open_lists.+lists.Given as goal

abbrev pub decreases-open_list : goal.decreases-open_list
decreases-open_list l = 2 * size_of l.tree.now.under + 1

abbrev pub decreases-list_at : goal.decreases-list_at
decreases-list_at l = 2 * size_of l.tree.now.under

abbrev pub invariant-open_list-children : goal.invariant-open_list-children
invariant-open_list-children l = open_list (from_child l.k l.tree.under) ≡ open_list l.tree.under
