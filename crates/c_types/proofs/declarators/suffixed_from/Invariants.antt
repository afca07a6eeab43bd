use Rattle.std.proofs.Common.{◌≡◌, ◌≤◌}
use Rattle.c_types.specs.Children.{from_child}
use Rattle.c_types.specs.Trees.{suffixed}
use Rattle.c_types.proofs.declarators.suffixed_from.Given as goal

abbrev pub invariant-suffixes : goal.invariant-suffixes
invariant-suffixes l = record {
  above : l.from ≤ l.k;
  behind : l.typed ≡ suffixed l.initial.typed (from_child l.k l.tree.under);
}

abbrev pub decreases-suffixes : goal.decreases-suffixes
decreases-suffixes l = l.k
