use Rattle.std.proofs.Common.{◌≡◌}
use Rattle.c_types.specs.Children.{from_child}
use Rattle.gnu_bind.specs.Alone.{has_other}
use Rattle.gnu_bind.proofs.alone.has_other_behind.Given as goal

abbrev pub invariant-children : goal.invariant-children
invariant-children l = has_other (from_child l.k l.tree.under) ≡ has_other (from_child 1 l.tree.under)
