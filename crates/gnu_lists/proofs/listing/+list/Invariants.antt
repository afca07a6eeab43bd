use Rattle.std.proofs.Common.{◌≡◌, ◌+◌, ◌*◌, ◌++◌}
use Rattle.c99_tree.specs.Tree.{size_of}
use Rattle.c_types.specs.Children.{from_child}
use Rattle.gnu_lists.specs.declared.tokens.Mark.TheVariants.{Text as AText, Count as ACount}
use Rattle.gnu_lists.specs.Lists.{places_in, texts_in, told_below, blocks_in}
use Rattle.gnu_lists.proofs.listing.+list.Given as goal

abbrev pub decreases-list : goal.decreases-list
decreases-list l = 2 * size_of l.tree.now.under + 1

abbrev pub decreases-list_at : goal.decreases-list_at
decreases-list_at l = 2 * size_of l.tree.now.under

abbrev pub invariant-list-children : goal.invariant-list-children
invariant-list-children l = record {
  places : l.all.places.items ++ places_in l.toks (from_child l.k l.tree.under) ≡ l.initial.all.places.items ++ places_in l.toks l.tree.under;
  texts : l.all.texts.items ++ texts_in l.toks l.inside (from_child l.k l.tree.under) ≡ l.initial.all.texts.items ++ texts_in l.toks l.inside l.tree.under;
  counts : l.all.counts.items ++ told_below l.toks ACount (from_child l.k l.tree.under) ≡ l.initial.all.counts.items ++ told_below l.toks ACount l.tree.under;
  symbols : l.all.symbols.items ++ told_below l.toks AText (from_child l.k l.tree.under) ≡ l.initial.all.symbols.items ++ told_below l.toks AText l.tree.under;
  begins : l.all.begins.items ++ blocks_in (from_child l.k l.tree.under) ≡ l.initial.all.begins.items ++ blocks_in l.tree.under;
}
