use Rattle.std.proofs.Common.{◌≡◌, ℕ, Bool}
use Rattle.trim_plan.specs.Children.{ArePruned}
use Rattle.trim_plan.specs.Left.{moved, left}
use Rattle.trim_plan.specs.Places.{IsLeftOf}
use Rattle.trim_plan.proofs.trees.is_pruned.Given as goal

abbrev pub invariant-children : goal.invariant-children
invariant-children l =
    (gone : ℕ → Bool) (count : ℕ) → IsLeftOf gone count l.left → ArePruned gone l.old.under l.new.under l.k l.j
    → l.new.under ≡ moved gone (left gone l.old.under)
