use Rattle.std.proofs.Common.{◌≡◌, ◌+◌, ◌≤◌}
use Rattle.c_types.specs.Children.{from_child}
use Rattle.template_meaning.specs.Matched.{node_count}
use Rattle.template_plan.proofs.trees.node_count.Given as goal

abbrev pub invariant-children : goal.invariant-children
invariant-children l = (l.nodes + node_count (from_child l.k l.tree.under) ≡ node_count l.tree.under) × (l.nodes ≤ l.k)
