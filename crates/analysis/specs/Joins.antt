-- What joining links makes of a table of classes.
use Rattle.std.specs.Prelude.{ℕ, ◌≡◌, true, List, [], ◌∷◌, ◌++◌, filter, map, Option, Some, None, slice_get, slice_index_or}
use Rattle.cs_base.specs.declared.tokens.Link.{Link}
use Rattle.cs_base.specs.Token.{Token}
use Rattle.eclass_map.specs.ClassTable.{Table, AreLinks, AreWhole, HasParts, added_tokens}
use Rattle.include_tree.specs.Below.line_shape.Signs.{is_name}
use Rattle.analysis.specs.Links.{are_alike, pair_of}

abbrev pub link_of : Token → Token → Link
link_of x y = record { x = x; y = y }

-- the tokens of those that link two identifiers of equal spelling
abbrev pub alike_pairs : List Link → List (Token × Token)
alike_pairs links = map pair_of (filter are_alike links)

-- Two tokens were joined.
pub record JoinsPair (x y : Token) (old new : Table) : Type 0 where
  pub tokens : added_tokens new ≡ added_tokens old
  pub parts : HasParts new
  pub links : (links : List (Token × Token)) → AreLinks links old → AreLinks (links ++ (x, y) ∷ []) new

-- Those of the links were joined, in order.
pub record Joins (joined : List Link) (old new : Table) : Type 0 where
  pub tokens : added_tokens new ≡ added_tokens old
  pub parts : HasParts old → HasParts new
  pub links : (before : List (Token × Token)) → AreLinks before old → AreLinks (before ++ alike_pairs joined) new

-- where the rest is joined, all is
abbrev pub Awaits : List Link → List Link → Table → Table → Type 0
Awaits rest all old now = (new : Table) → Joins rest now new → Joins all old new

-- If the token is a name, its characters are those of whole tokens of the table.
abbrev pub IsKnown : Token → Table → Type 0
IsKnown t table = is_name t ≡ true → AreWhole table t.origins

-- So it is with those of the tokens that these numbers tell.
abbrev pub AreKnown : List (Option ℕ) → List Token → Table → Type 0
AreKnown firsts toks table =
    (e j : ℕ) (t : Token) → slice_index_or firsts e None ≡ Some j → slice_get toks j ≡ Some t → IsKnown t table
