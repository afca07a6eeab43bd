use Rattle.std.proofs.Common.{◌+◌, ◌*◌}
use Rattle.c99_tree.specs.Tree.{size_of}
use Rattle.c_types.specs.Children.{from_child}
use Rattle.template_meaning.specs.Matched.{EachHas}
use Rattle.template_plan.proofs.trees.+items.Given as goal

abbrev pub decreases-have_items : goal.decreases-have_items
decreases-have_items l = 2 * size_of l.tree.now.under + 1

abbrev pub decreases-have_items_at : goal.decreases-have_items_at
decreases-have_items_at l = 2 * size_of l.tree.now.under

abbrev pub invariant-have_items-children : goal.invariant-have_items-children
invariant-have_items-children l = EachHas l.n l.begins (from_child l.k l.tree.under) → EachHas l.n l.begins l.tree.under
