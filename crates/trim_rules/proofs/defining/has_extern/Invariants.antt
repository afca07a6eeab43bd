use Rattle.std.proofs.Common.{◌≡◌}
use Rattle.c_types.specs.Children.{from_child}
use Rattle.trim_rules.specs.Defining.{has_extern}
use Rattle.trim_rules.proofs.defining.has_extern.Given as goal

abbrev pub invariant-children : goal.invariant-children
invariant-children l = has_extern (from_child l.k l.tree.under) ≡ has_extern l.tree.under
