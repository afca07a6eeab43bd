-- Which list may stand where a production or an item begins.
use Rattle.std.proofs.Common.{if◌then◌else◌}
use Rattle.c99_tree.specs.declared.production.Production.{Production}
use Rattle.c99_tree.specs.declared.production.Production.TheVariants.{Suffix, Pdecl, Pdirect, Adecl, Adirect, Post}
use Rattle.c99_grammar.specs.Items.{Item, one, part, end_of_text, act, ◌·◌, choice, maybe, many, deep}
use Rattle.c99_read.specs.Sound.{has_token}
use Rattle.reordered_text_laws.proofs.Near.{Front, shut, listed, called, higher}

abbrev pub production_front : Production → Front
production_front Post = called
production_front Suffix = listed
production_front Pdecl = listed
production_front Pdirect = listed
production_front Adecl = listed
production_front Adirect = listed
production_front _ = shut

abbrev pub item_front : Item → Front
item_front (one classes) = shut
item_front (part p) = production_front p
item_front end_of_text = shut
item_front (act a) = shut
item_front (a · b) = if has_token a then item_front a else higher (item_front a) (item_front b)
item_front (choice a b) = higher (item_front a) (item_front b)
item_front (maybe a) = item_front a
item_front (many t a) = item_front a
item_front (deep a) = item_front a
