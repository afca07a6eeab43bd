use Rattle.std.proofs.Common.{◌≡◌}
use Rattle.c_types.specs.Children.{from_child}
use Rattle.scope_bind.specs.Braced.{has_list}
use Rattle.scope_bind.proofs.entering.has_list.Given as goal

abbrev pub invariant-children : goal.invariant-children
invariant-children l = has_list (from_child l.k l.tree.under) ≡ has_list l.tree.under
