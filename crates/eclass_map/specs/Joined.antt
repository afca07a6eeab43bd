-- What a join makes of a table, and what it costs.
use Rattle.std.specs.Prelude.{ℕ, ◌+◌, ◌-◌, ◌*◌, ◌≡◌, ◌≤◌, List, [], ◌∷◌, ◌++◌}
use Rattle.cs_base.specs.Token.{Token}
use Rattle.class_labels.specs.Chain.{Least}
use Rattle.class_labels.specs.Weight.{digits}
use Rattle.eclass_map.specs.ClassTable.{Table, SameOrLinked, AreLinks, HasParts, label, relabelled_in, weight_in, parts_in, added_tokens, character_count, joined_in, parts_joined}
use Rattle.eclass_map.specs.History.{History}

-- the characters of two tokens are the same now, with ticks from m to n
pub record AreJoined (x y : Token) (old new : Table) (m n : ℕ) : Type 0 where
  pub unchanged : added_tokens new ≡ added_tokens old
  pub count : character_count new ≡ character_count old
  pub same : Least (SameOrLinked old x y) (label new)
  pub links : (links : List (Token × Token)) → AreLinks links old → AreLinks (links ++ (x, y) ∷ []) new
  pub parts : HasParts new
  pub enough : relabelled_in old new + m ≤ n
  pub bound : n + weight_in old ≤ m + weight_in new
  pub history : (r k : ℕ) → History old r k → History new (r + relabelled_in old new) (k + (n - m))
  pub most : weight_in new ≤ parts_in new * digits (parts_in new)
  pub exact : new ≡ joined_in x y old
  pub ticks : n ≡ m + parts_joined x y old
