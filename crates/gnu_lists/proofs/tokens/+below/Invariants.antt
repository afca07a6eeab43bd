use Rattle.std.proofs.Common.{◌≡◌, ◌+◌, ◌*◌, ◌++◌}
use Rattle.c99_tree.specs.Tree.{size_of}
use Rattle.c_types.specs.Children.{from_child}
use Rattle.gnu_lists.specs.Tokens.{marks_below}
use Rattle.gnu_lists.proofs.tokens.+below.Given as goal

abbrev pub decreases-push_below : goal.decreases-push_below
decreases-push_below l = 2 * size_of l.tree.now.under + 1

abbrev pub decreases-push_below_at : goal.decreases-push_below_at
decreases-push_below_at l = 2 * size_of l.tree.now.under

abbrev pub invariant-push_below-children : goal.invariant-push_below-children
invariant-push_below-children l = l.out.items ++ marks_below l.toks l.mark (from_child l.k l.tree.under) ≡ l.initial.out.items ++ marks_below l.toks l.mark l.tree.under
