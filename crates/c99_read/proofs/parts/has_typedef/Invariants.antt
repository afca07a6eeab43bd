use Rattle.std.proofs.Common.{◌≡◌}
use Rattle.c99_read.specs.State.{has_typedef}
use Rattle.c99_read.specs.Children.{from_child}
use Rattle.c99_read.proofs.parts.has_typedef.Given as goal

abbrev pub invariant-children : goal.invariant-children
invariant-children l = has_typedef (from_child l.k l.specs.under) ≡ has_typedef l.specs.under
