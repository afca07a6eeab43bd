use Rattle.std.proofs.Common.{◌≡◌, ◌++◌, take}
use Rattle.std.specs.List.{flat_map}
use Rattle.unseen_names.specs.Words.{item_words}
use Rattle.unseen_names.proofs.words.push_items.Given as goal

abbrev pub invariant-loop-item : goal.invariant-loop-item
invariant-loop-item l = l.out.items ≡ l.initial.out.items ++ flat_map (item_words l.source l.name l.toks) (take l.item-index l.items)
