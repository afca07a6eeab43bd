-- What is true of every pattern, and of every query.
use Rattle.std.specs.Prelude.{ℕ, ◌≡◌, ◌↔◌, true, List, Ok}
use Rattle.query_words.specs.Grammar.{Alternatives, Derives, IsRead}
use Rattle.query_words.specs.Patterns.{matches, Becomes}
use Rattle.query_words.specs.Queries.{Query}
use Rattle.query_words.specs.Reading.{depth_limit, parsed}

-- A pattern matches exactly the texts that become of it where each `*` is replaced by some bytes, perhaps none.
abbrev pub PatternsAreReplaced : Type 0
PatternsAreReplaced = (pattern text : List ℕ) → (matches pattern text ≡ true) ↔ Becomes pattern text

-- A word is what it is by the grammar alone, and a query exactly where the grammar derives it: then the one that it derives.
abbrev pub QueriesAreDerived : Type 0
QueriesAreDerived =
    ((text : List ℕ) → IsRead text (parsed text))
    × ((text : List ℕ) (q : Query) → (parsed text ≡ Ok q) ↔ Derives Alternatives depth_limit text q)
