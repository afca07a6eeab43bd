use Rattle.std.proofs.Common.{◌≡◌, ◌+◌, ◌*◌, ◌++◌}
use Rattle.c99_tree.specs.Tree.{size_of}
use Rattle.c_types.specs.Children.{from_child}
use Rattle.gnu_lists.specs.Counted.{marks_in}
use Rattle.gnu_lists.proofs.counted.+marks.Given as goal

abbrev pub decreases-push_marks : goal.decreases-push_marks
decreases-push_marks l = 2 * size_of l.tree.now.under + 1

abbrev pub decreases-push_marks_at : goal.decreases-push_marks_at
decreases-push_marks_at l = 2 * size_of l.tree.now.under

abbrev pub invariant-push_marks-children : goal.invariant-push_marks-children
invariant-push_marks-children l = l.out.items ++ marks_in l.toks l.mark (from_child l.k l.tree.under) ≡ l.initial.out.items ++ marks_in l.toks l.mark l.tree.under
