-- The grammar of queries (this project's), as what is derived from it, and what is said of a word by it alone.
--     query = and ("|" and)*        and = not ("&" not)*        not = "!" not | "(" query ")" | atom
--     atom = "name=" pattern | attribute
-- How a word is read stands in `Reading`; nothing here speaks of reading, places or signs that follow.
use Rattle.std.specs.Prelude.{ℕ, suc, ◌≡◌, ◌+◌, ◌<◌, ◌≤◌, Bool, true, Some, Result, Ok, Err, List, [], ◌∷◌, ◌++◌, length, take, drop, codes}
use Rattle.std.specs.List.{list_all}
use Rattle.query_words.specs.declared.attributes.Attribute.{Attribute}
use Rattle.query_words.specs.declared.faults.QueryFault.{QueryFault}
use Rattle.query_words.specs.declared.faults.QueryFault.TheVariants.{Bad, Deep}
use Rattle.query_words.specs.Attributes.{attribute_of}
use Rattle.query_words.specs.Queries.{Query, Either, Both, Not, Is, Named}
use Rattle.query_words.specs.Reading.{ampersand, bar, closing, depth_limit, exclamation, is_of_pattern, opening, word_of}

-- what a text may be: a query, an `and`, a `not`
pub data Level : Type 0 where
  Alternatives : Level
  Conjunction : Level
  Operand : Level

-- The text is of this level, with at most so many `!` and `(` open at once, and means the query.
pub data Derives : Level → ℕ → List ℕ → Query → Type 0 where
  one_conjunction : {room : ℕ} {text : List ℕ} {q : Query} → Derives Conjunction room text q → Derives Alternatives room text q
  either_of : {room : ℕ} {left right : List ℕ} {p q : Query} → Derives Alternatives room left p → Derives Conjunction room right q
      → Derives Alternatives room (left ++ bar ∷ right) (Either p q)
  one_operand : {room : ℕ} {text : List ℕ} {q : Query} → Derives Operand room text q → Derives Conjunction room text q
  both_of : {room : ℕ} {left right : List ℕ} {p q : Query} → Derives Conjunction room left p → Derives Operand room right q
      → Derives Conjunction room (left ++ ampersand ∷ right) (Both p q)
  not_of : {room : ℕ} {text : List ℕ} {q : Query} → Derives Operand room text q → Derives Operand (suc room) (exclamation ∷ text) (Not q)
  in_parentheses : {room : ℕ} {text : List ℕ} {q : Query} → Derives Alternatives room text q
      → Derives Operand (suc room) (opening ∷ (text ++ closing ∷ [])) q
  an_attribute : {room : ℕ} {word : List ℕ} (a : Attribute) → attribute_of word ≡ Some a → Derives Operand room word (Is a)
  a_pattern : {room : ℕ} (c : ℕ) (pattern : List ℕ) → list_all is_of_pattern (c ∷ pattern) ≡ true
      → Derives Operand room (codes "name=" ++ c ∷ pattern) (Named (c ∷ pattern))

-- Some query begins with these bytes, with at most so many `!` and `(` open at once.
abbrev pub GoesOn : ℕ → List ℕ → Type 0
GoesOn room front = (more : List ℕ) × (q : Query) × Derives Alternatives room (front ++ more) q

-- where the first byte from a place on stands that is no lower-case letter, or the text ends
abbrev pub word_end : List ℕ → ℕ → ℕ
word_end text n = n + length (word_of (drop n text))

-- the text is no query
abbrev pub IsNone : List ℕ → Type 0
IsNone text = (q : Query) → Derives Alternatives depth_limit text q → ⊥

-- What a word is by the grammar alone. A query: what derives it. Bad at a byte: some query goes on from the bytes before
-- it, and none from those up to and with the first one from there on that is no lower-case letter, if there is one. Too
-- deep at a byte: some query goes on from the bytes before it, none from these and the byte, but one does where one more
-- `!` or `(` may be open.
abbrev pub IsRead : List ℕ → Result Query QueryFault → Type 0
IsRead text (Ok q) = Derives Alternatives depth_limit text q
IsRead text (Err (Bad n)) =
    (n ≤ length text)
    × GoesOn depth_limit (take n text)
    × (word_end text n < length text → GoesOn depth_limit (take (word_end text n + 1) text) → ⊥)
    × IsNone text
IsRead text (Err (Deep n)) =
    (n < length text)
    × GoesOn depth_limit (take n text)
    × (GoesOn depth_limit (take (n + 1) text) → ⊥)
    × GoesOn (depth_limit + 1) (take (n + 1) text)
    × IsNone text
