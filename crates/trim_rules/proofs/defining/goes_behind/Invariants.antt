use Rattle.std.proofs.Common.{◌≡◌}
use Rattle.c_types.specs.Children.{from_child}
use Rattle.trim_rules.specs.Defining.{goes_behind}
use Rattle.trim_rules.proofs.defining.goes_behind.Given as goal

abbrev pub invariant-children : goal.invariant-children
invariant-children l = goes_behind l.j (from_child l.n l.tree.under) ≡ goes_behind l.j (from_child l.k l.tree.under)
