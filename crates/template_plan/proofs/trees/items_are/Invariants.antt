use Rattle.c_types.specs.Children.{from_child}
use Rattle.template_meaning.specs.Matched.{ItemsAre}
use Rattle.template_plan.proofs.trees.items_are.Given as goal

abbrev pub invariant-children : goal.invariant-children
invariant-children l = ItemsAre l.n (from_child l.k l.tree.under) → ItemsAre l.n l.tree.under
