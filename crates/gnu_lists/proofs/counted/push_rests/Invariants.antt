use Rattle.std.proofs.Common.{◌≡◌, ◌++◌}
use Rattle.c_types.specs.Children.{from_child}
use Rattle.gnu_lists.specs.Counted.{told_rests}
use Rattle.gnu_lists.proofs.counted.push_rests.Given as goal

abbrev pub invariant-children : goal.invariant-children
invariant-children l = l.out.items ++ told_rests l.toks l.mark l.before (from_child l.k l.tree.under) ≡ l.initial.out.items ++ told_rests l.toks l.mark l.before l.tree.under
