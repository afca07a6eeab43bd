-- What satisfies a query, where it is known what the attributes say of it (this project's).
use Rattle.std.specs.Prelude.{ℕ, ◌≡◌, ◌⊎◌, true, List, MatchBool}
use Rattle.query_words.specs.declared.attributes.Attribute.{Attribute}
use Rattle.query_words.specs.declared.attributes.Facts.{Facts}
use Rattle.query_words.specs.Attributes.{has}
use Rattle.query_words.specs.Patterns.{matches}
use Rattle.query_words.specs.Queries.{Query, Either, Both, Not, Is, Named}

-- Something with this spelling, of which the attributes say so, satisfies the query.
unfoldable pub Satisfies : (Attribute → Type 0) → List ℕ → Query → Type 0
Satisfies Says spelling (Either p q) = Satisfies Says spelling p ⊎ Satisfies Says spelling q
Satisfies Says spelling (Both p q) = Satisfies Says spelling p × Satisfies Says spelling q
Satisfies Says spelling (Not q) = Satisfies Says spelling q → ⊥
Satisfies Says spelling (Is attribute) = Says attribute
Satisfies Says spelling (Named pattern) = matches pattern spelling ≡ true

-- The facts are what the attributes say.
abbrev pub AreFacts : (Attribute → Type 0) → Facts → Type 0
AreFacts Says facts = (attribute : Attribute) → MatchBool (has facts attribute) (Says attribute) (Says attribute → ⊥)
