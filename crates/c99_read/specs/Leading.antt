-- Alternatives that begin with a production and may end there, whose node is left out then.
use Rattle.std.specs.Prelude.{Bool, true, false, ◌≡◌}
use Rattle.c99_tree.specs.declared.production.Production.{Production}
use Rattle.c99_grammar.specs.Items.{Item, maybe, many, own}
use Rattle.c99_read.specs.State.{collapses}

-- the item is read where it starts, and nothing is read elsewhere
abbrev pub is_optional : Item → Bool
is_optional (maybe a) = true
is_optional (many own a) = true
is_optional _ = false

-- a node of the production is left out where the rest of its alternative does not start
pub record CanBeLeftOut (p : Production) (rest : Item) : Type 0 where
  pub collapses : collapses p ≡ true
  pub optional : is_optional rest ≡ true
