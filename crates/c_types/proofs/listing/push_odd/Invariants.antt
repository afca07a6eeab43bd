use Rattle.std.proofs.Common.{◌≡◌, ◌++◌}
use Rattle.c_types.specs.Children.{from_child}
use Rattle.c_types.specs.Lists.{odd_tokens}
use Rattle.c_types.proofs.listing.push_odd.Given as goal

abbrev pub invariant-children : goal.invariant-children
invariant-children l = l.out.items ++ odd_tokens l.number (from_child l.n l.tree.under) ≡ l.initial.out.items ++ odd_tokens l.initial.number l.tree.under
