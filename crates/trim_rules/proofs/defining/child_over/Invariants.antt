use Rattle.std.proofs.Common.{◌-◌}
use Rattle.trim_rules.specs.Walks.{IsPast}
use Rattle.trim_rules.proofs.defining.child_over.Given as goal

abbrev pub invariant-children : goal.invariant-children
invariant-children l = IsPast l.tree.under l.child l.k

abbrev pub decreases-children : goal.decreases-children
decreases-children l = l.count - l.child
