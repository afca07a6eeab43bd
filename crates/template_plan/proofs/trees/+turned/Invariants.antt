use Rattle.std.proofs.Common.{◌≡◌, ◌+◌, ◌*◌}
use Rattle.c99_tree.specs.Tree.{size_of}
use Rattle.c_types.specs.Children.{from_child}
use Rattle.template_meaning.specs.Matched.{items_on, turned, MatchesOn}
use Rattle.template_plan.proofs.trees.+turned.Given as goal

abbrev pub decreases-is_child_put : goal.decreases-is_child_put
decreases-is_child_put l = 8 * size_of l.inner.now.under + 7

abbrev pub decreases-is_put : goal.decreases-is_put
decreases-is_put l = 8 * size_of l.old.now.under + 6

abbrev pub decreases-is_shuffled : goal.decreases-is_shuffled
decreases-is_shuffled l = 8 * size_of l.old.now.under + 5

abbrev pub decreases-is_turned : goal.decreases-is_turned
decreases-is_turned l = 8 * size_of l.old.now.under + 2

abbrev pub decreases-is_turned_at : goal.decreases-is_turned_at
decreases-is_turned_at l = 8 * size_of l.old.now.under + 1

abbrev pub decreases-passed : goal.decreases-passed
decreases-passed l = 8 * size_of l.old.now.under + 3

abbrev pub decreases-is_item_put : goal.decreases-is_item_put
decreases-is_item_put l = 8 * size_of l.old.now.under + 2

abbrev pub decreases-is_number_put : goal.decreases-is_number_put
decreases-is_number_put l = 8 * size_of l.old.now.under + 1

abbrev pub invariant-is_turned-children : goal.invariant-is_turned-children
invariant-is_turned-children l =
    MatchesOn (turned l.order l.begins l.listed l.old.under) (turned l.order l.begins l.listed (from_child l.k l.old.under)) l.new.under (from_child l.k l.new.under)
    l.initial.perm.items l.perm.items

abbrev pub invariant-is_shuffled-children : goal.invariant-is_shuffled-children
invariant-is_shuffled-children l =
    MatchesOn (items_on l.order l.begins l.old.under 0 0) (items_on l.order l.begins l.old.under l.j l.k) l.new.under (from_child l.k l.new.under)
    l.initial.perm.items l.perm.items
