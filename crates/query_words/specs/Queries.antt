-- Queries, and what they say of something with attributes and a spelling (this project's).
use Rattle.std.specs.Prelude.{ℕ, ◌&&◌, ◌||◌, Bool, not, List}
use Rattle.query_words.specs.declared.attributes.Attribute.{Attribute}
use Rattle.query_words.specs.declared.attributes.Facts.{Facts}
use Rattle.query_words.specs.Attributes.{has}
use Rattle.query_words.specs.Patterns.{matches}

-- A query: one of two, both, or not one; an attribute, or a spelling that matches a pattern.
pub data Query : Type 0 where
  Either : Query → Query → Query
  Both : Query → Query → Query
  Not : Query → Query
  Is : Attribute → Query
  Named : List ℕ → Query

-- something with these attributes and this spelling satisfies the query
unfoldable pub value : Facts → List ℕ → Query → Bool
value facts spelling (Either p q) = value facts spelling p || value facts spelling q
value facts spelling (Both p q) = value facts spelling p && value facts spelling q
value facts spelling (Not q) = not (value facts spelling q)
value facts spelling (Is attribute) = has facts attribute
value facts spelling (Named pattern) = matches pattern spelling
