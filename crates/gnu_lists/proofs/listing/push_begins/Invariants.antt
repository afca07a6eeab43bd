use Rattle.std.proofs.Common.{◌≡◌, ◌++◌}
use Rattle.c_types.specs.Children.{from_child}
use Rattle.gnu_lists.specs.Lists.{begins_in}
use Rattle.gnu_lists.proofs.listing.push_begins.Given as goal

abbrev pub invariant-children : goal.invariant-children
invariant-children l = l.out.items ++ begins_in (from_child l.k l.tree.under) ≡ l.initial.out.items ++ begins_in l.tree.under
