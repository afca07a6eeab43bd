use Rattle.std.proofs.Common.{◌≡◌}
use Rattle.c_types.specs.Children.{from_child}
use Rattle.gnu_bind.specs.Alone.{is_lone}
use Rattle.gnu_bind.proofs.alone.is_lone.Given as goal

abbrev pub invariant-children : goal.invariant-children
invariant-children l = is_lone (from_child l.k l.tree.under) ≡ is_lone l.tree.under
