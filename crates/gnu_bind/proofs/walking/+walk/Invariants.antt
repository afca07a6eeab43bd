use Rattle.std.proofs.Common.{◌≡◌, ◌+◌, ◌*◌, ◌++◌}
use Rattle.c99_tree.specs.Tree.{size_of}
use Rattle.c_types.specs.Children.{from_child}
use Rattle.scope_bind.specs.Below.name_chains.Frames.{state}
use Rattle.c_types.specs.Lists.{calls_in, lists_in, bare_in}
use Rattle.gnu_bind.specs.Walk.{walked}
use Rattle.gnu_bind.proofs.walking.+walk.Given as goal

abbrev pub decreases-walk : goal.decreases-walk
decreases-walk l = 3 * size_of l.tree.now.under + 1

abbrev pub decreases-walk_at : goal.decreases-walk_at
decreases-walk_at l = 3 * size_of l.tree.now.under

abbrev pub decreases-walk_node : goal.decreases-walk_node
decreases-walk_node l = 3 * size_of l.inner.now.under + 2

abbrev pub invariant-walk-children : goal.invariant-walk-children
invariant-walk-children l = record {
  toks : l.facts.toks ≡ l.initial.facts.toks;
  rest : walked l.facts.toks l.sense (from_child l.k l.tree.under) (state l.facts.facts l.f) ≡ walked l.initial.facts.toks l.sense l.tree.under (state l.initial.facts.facts l.initial.f);
  lists : l.shown.lists.items ++ lists_in (from_child l.k l.tree.under) ≡ l.initial.shown.lists.items ++ lists_in l.tree.under;
  calls : l.shown.calls.items ++ calls_in (from_child l.k l.tree.under) ≡ l.initial.shown.calls.items ++ calls_in l.tree.under;
  bare : l.shown.bare.items ++ bare_in (from_child l.k l.tree.under) ≡ l.initial.shown.bare.items ++ bare_in l.tree.under;
}
