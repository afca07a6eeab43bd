-- How a query is read (this project's):
--     query = and ("|" and)*        and = not ("&" not)*        not = "!" not | "(" query ")" | atom
--     atom = "name=" pattern | attribute
-- An attribute is a longest sequence of lower-case letters; a pattern is one or more letters, digits, `_` and `*`.
-- At most 64 `!` and `(` are open at once.
use Rattle.std.specs.Prelude.{ℕ, zero, suc, ◌+◌, ◌==◌, ◌&&◌, ◌||◌, Bool, false, nat_le, nat_lt, if◌then◌else◌, Option, Some, None, Result, Ok, Err, List, [], ◌∷◌, length, drop, slice_get, codes}
use Rattle.std.specs.List.{take_while}
use Rattle.std.specs.Option.{option_map_or}
use Rattle.std.specs.Str.{bytes_eq}
use Rattle.cs_base.specs.Answer.{result_then}
use Rattle.query_words.specs.declared.attributes.Attribute.{Attribute}
use Rattle.query_words.specs.declared.faults.QueryFault.{QueryFault}
use Rattle.query_words.specs.declared.faults.QueryFault.TheVariants.{Bad, Deep}
use Rattle.query_words.specs.declared.walk.Rule.{Rule}
use Rattle.query_words.specs.declared.walk.Rule.TheVariants.{Whole, Denied}
use Rattle.query_words.specs.Attributes.{attribute_of}
use Rattle.query_words.specs.Patterns.{star}
use Rattle.query_words.specs.Queries.{Query, Either, Both, Not, Is, Named}

-- ---- bytes

abbrev pub is_between : ℕ → ℕ → ℕ → Bool
is_between low high c = nat_le low c && nat_le c high

-- a letter from `a` to `z`
abbrev pub is_small : ℕ → Bool
is_small c = is_between 97 122 c

-- a byte of a pattern: a letter, a digit, `_` or `*`
abbrev pub is_of_pattern : ℕ → Bool
is_of_pattern c = is_small c || is_between 65 90 c || is_between 48 57 c || c == 95 || c == star

-- this byte stands at a place
abbrev pub is_byte : List ℕ → ℕ → ℕ → Bool
is_byte text at c = option_map_or (λ b. b == c) (slice_get text at) false

abbrev pub bar : ℕ
bar = 124

abbrev pub ampersand : ℕ
ampersand = 38

abbrev pub exclamation : ℕ
exclamation = 33

abbrev pub opening : ℕ
opening = 40

abbrev pub closing : ℕ
closing = 41

abbrev pub equals : ℕ
equals = 61

-- ---- parts of queries

-- a query, and the place behind what it was read from
pub record Read : Type 0 where
  pub query : Query
  pub next : ℕ

abbrev pub read : Query → ℕ → Read
read query next = record { query = query; next = next }

-- how to read by a rule what stands behind the opening byte at a place
abbrev pub Inner : Type 0
Inner = Rule → ℕ → Result Read QueryFault

-- ---- atoms

-- the longest sequence of lower-case letters at the front
abbrev pub word_of : List ℕ → List ℕ
word_of rest = take_while is_small rest

-- `name=` stands at the front, and no letter before it
abbrev pub begins_name : List ℕ → Bool
begins_name rest = bytes_eq (word_of rest) (codes "name") && is_byte rest 4 equals

abbrev pub pattern_read : ℕ → List ℕ → Result Read QueryFault
pattern_read at [] = Err (Bad at)
pattern_read at (c ∷ pattern) = Ok (read (Named (c ∷ pattern)) (at + length (c ∷ pattern)))

abbrev pub attribute_read : ℕ → List ℕ → Option Attribute → Result Read QueryFault
attribute_read at word None = Err (Bad at)
attribute_read at word (Some attribute) = Ok (read (Is attribute) (at + length word))

-- the atom at a place, where this rest of the query begins
unfoldable pub atom : ℕ → List ℕ → Result Read QueryFault
atom at rest =
    if begins_name rest then pattern_read (at + 5) (take_while is_of_pattern (drop 5 rest))
    else attribute_read at (word_of rest) (attribute_of (word_of rest))

-- ---- what is made of atoms

abbrev pub denied : Read → Result Read QueryFault
denied r = Ok (read (Not r.query) r.next)

-- the `)` behind a query
abbrev pub closed : List ℕ → Read → Result Read QueryFault
closed text r = if is_byte text r.next closing then Ok (read r.query (r.next + 1)) else Err (Bad r.next)

-- not
unfoldable pub negation : Inner → List ℕ → ℕ → Result Read QueryFault
negation inner text at =
    if is_byte text at exclamation then result_then denied (inner Denied at)
    else (if is_byte text at opening then result_then (closed text) (inner Whole at)
    else atom at (drop at text))

-- how to read an operand at a place
abbrev pub Part : Type 0
Part = ℕ → Result Read QueryFault

abbrev pub joined : (Query → Query → Query) → Part → Read → Result Read QueryFault
joined join part left = result_then (λ right. Ok (read (join left.query right.query) right.next)) (part (left.next + 1))

-- What follows an operand: signs and further operands, grouped to the left. The number is how many signs may follow
-- at most: there are no more than bytes.
unfoldable pub chain : (Query → Query → Query) → ℕ → Part → List ℕ → ℕ → Read → Result Read QueryFault
chain join sign part text zero left = Ok left
chain join sign part text (suc most) left =
    if is_byte text left.next sign then result_then (chain join sign part text most) (joined join part left)
    else Ok left

-- and
unfoldable pub both : Inner → List ℕ → ℕ → Result Read QueryFault
both inner text at = result_then (chain Both ampersand (negation inner text) text (length text)) (negation inner text at)

-- query
unfoldable pub either : Inner → List ℕ → ℕ → Result Read QueryFault
either inner text at = result_then (chain Either bar (both inner text) text (length text)) (both inner text at)

abbrev pub by_rule : Inner → List ℕ → Rule → ℕ → Result Read QueryFault
by_rule inner text Whole at = either inner text at
by_rule inner text Denied at = negation inner text at

-- what stands behind an opening byte where so many more may be open
unfoldable pub enclosed : List ℕ → ℕ → Inner
enclosed text zero rule at = Err (Deep at)
enclosed text (suc room) rule at = by_rule (enclosed text room) text rule (at + 1)

abbrev pub depth_limit : ℕ
depth_limit = 64

-- a query that was read, behind which nothing may stand
abbrev pub whole : List ℕ → Read → Result Query QueryFault
whole text r = if nat_lt r.next (length text) then Err (Bad r.next) else Ok r.query

-- The query that a word is, or its first fault.
unfoldable pub parsed : List ℕ → Result Query QueryFault
parsed text = result_then (whole text) (either (enclosed text depth_limit) text 0)
