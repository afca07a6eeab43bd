use Rattle.c99_tree.specs.Tree.{Node}
use Rattle.c_types.specs.Children.{from_child}
use Rattle.template_meaning.specs.Matched.{IsNodeNumber}
use Rattle.template_plan.proofs.trees.node_number.Given as goal

abbrev pub invariant-children : goal.invariant-children
invariant-children l = (n : Node) → IsNodeNumber (from_child l.k l.tree.under) l.left n → IsNodeNumber l.tree.under l.number n
