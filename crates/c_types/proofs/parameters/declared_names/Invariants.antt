use Rattle.std.proofs.Common.{◌≡◌, ◌++◌}
use Rattle.c_types.specs.Children.{from_child}
use Rattle.c_types.specs.Parameters.{declared_names}
use Rattle.c_types.proofs.parameters.declared_names.Given as goal

abbrev pub invariant-children : goal.invariant-children
invariant-children l = l.names.items ++ declared_names (from_child l.k l.list.under) ≡ declared_names l.list.under
