use Rattle.std.proofs.Common.{◌≡◌}
use Rattle.c_types.specs.Children.{from_child}
use Rattle.c_types.specs.Shapes.{inner_in}
use Rattle.c_types.proofs.shapes.inner_in.Given as goal

abbrev pub invariant-children : goal.invariant-children
invariant-children l = inner_in (from_child l.k l.tree.under) ≡ inner_in l.tree.under
