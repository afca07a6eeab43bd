use Rattle.std.proofs.Common.{◌≡◌, ◌+◌, ◌*◌, ℕ, Bool}
use Rattle.analysis.specs.Below.c99_tree.Tree.{size_of}
use Rattle.c_types.specs.Children.{from_child}
use Rattle.trim_plan.specs.Left.{moved}
use Rattle.trim_plan.specs.Places.{IsLeftOf}
use Rattle.trim_plan.proofs.trees.+moved.Given as goal

abbrev pub decreases-is_moved : goal.decreases-is_moved
decreases-is_moved l = 3 * size_of l.old.now.under + 2

abbrev pub decreases-is_moved_at : goal.decreases-is_moved_at
decreases-is_moved_at l = 3 * size_of l.old.now.under + 1

abbrev pub decreases-is_moved_node : goal.decreases-is_moved_node
decreases-is_moved_node l = 3 * size_of l.inner.now.under + 3

abbrev pub invariant-is_moved-children : goal.invariant-is_moved-children
invariant-is_moved-children l =
    (gone : ℕ → Bool) (count : ℕ) → IsLeftOf gone count l.left → from_child l.k l.new.under ≡ moved gone (from_child l.k l.old.under)
    → l.new.under ≡ moved gone l.old.under
