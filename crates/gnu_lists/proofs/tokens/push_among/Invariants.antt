use Rattle.std.proofs.Common.{◌≡◌, ◌++◌}
use Rattle.c_types.specs.Children.{from_child}
use Rattle.gnu_lists.specs.Tokens.{marks_among}
use Rattle.gnu_lists.proofs.tokens.push_among.Given as goal

abbrev pub invariant-children : goal.invariant-children
invariant-children l = l.out.items ++ marks_among l.toks l.mark (from_child l.k l.tree.under) ≡ l.initial.out.items ++ marks_among l.toks l.mark l.tree.under
