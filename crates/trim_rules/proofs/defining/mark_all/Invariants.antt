use Rattle.c_types.specs.Children.{from_child}
use Rattle.trim_rules.specs.Walks.{AreSoFar}
use Rattle.trim_rules.proofs.defining.mark_all.Given as goal

abbrev pub invariant-children : goal.invariant-children
invariant-children l = AreSoFar l.tree.under (from_child l.k l.tree.under) l._count l.marks.items
