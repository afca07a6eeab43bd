use Rattle.std.proofs.Common.{◌≡◌, ◌+◌, ◌*◌}
use Rattle.c99_tree.specs.Tree.{size_of}
use Rattle.c_types.specs.Children.{from_child}
use Rattle.c_types.specs.Trees.{first_list}
use Rattle.c_types.proofs.declarators.+list.Given as goal

abbrev pub decreases-first_list : goal.decreases-first_list
decreases-first_list l = 2 * size_of l.declarator.now.under + 1

abbrev pub decreases-list_at : goal.decreases-list_at
decreases-list_at l = 2 * size_of l.tree.now.under

abbrev pub invariant-first_list-parts : goal.invariant-first_list-parts
invariant-first_list-parts l = first_list (from_child l.k l.declarator.under) ≡ first_list l.declarator.under
