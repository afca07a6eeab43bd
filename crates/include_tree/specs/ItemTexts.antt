-- An item of a kept file, as it is lent.
use Rattle.include_tree.specs.declared.item_toks.ItemToks.{ItemToks}
use Rattle.include_tree.specs.Walk.{ItemText}

abbrev pub item_in : ItemToks → ItemText
item_in i = record { kind = i.kind; at = i.at; toks = i.toks.now }
