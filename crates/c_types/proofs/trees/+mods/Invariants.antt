use Rattle.std.proofs.Common.{◌≡◌, ◌+◌, ◌*◌}
use Rattle.c99_tree.specs.Tree.{size_of}
use Rattle.c_types.specs.Children.{from_child}
use Rattle.c_types.specs.Trees.{has_mod}
use Rattle.c_types.proofs.trees.+mods.Given as goal

abbrev pub decreases-has_mod : goal.decreases-has_mod
decreases-has_mod l = 2 * size_of l.tree.now.under + 1

abbrev pub decreases-is_mod_at : goal.decreases-is_mod_at
decreases-is_mod_at l = 2 * size_of l.tree.now.under

abbrev pub invariant-has_mod-specifiers : goal.invariant-has_mod-specifiers
invariant-has_mod-specifiers l = has_mod l.alternative (from_child l.k l.tree.under) ≡ has_mod l.alternative l.tree.under
