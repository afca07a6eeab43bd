-- The logical text of a source file: what translation phase 2 leaves (ISO/IEC 9899:1999, 5.1.1.2).
use Rattle.std.specs.Prelude.{ℕ, zero, suc, ◌+◌, ◌-◌, ◌&&◌, ◌==◌, if◌then◌else◌, List, [], ◌∷◌, map, take, count_by}
use Rattle.lexer.specs.Characters.{line_feed, carriage_return, backslash, begins}

-- a character of the logical text: its byte, and the offset of that byte in the file
pub record Character : Type 0 where
  pub byte : ℕ
  pub offset : ℕ

-- a character of these parts
abbrev pub character : ℕ → ℕ → Character
character byte offset = record { byte = byte; offset = offset }

-- How many bytes the new-line has that stands in front, and 0 where none does: a line feed, or a
-- carriage return and a line feed.
abbrev pub new_line_length : List ℕ → ℕ
new_line_length [] = 0
new_line_length (c ∷ cs) =
    if c == line_feed then 1 else (if c == carriage_return && begins line_feed cs then 2 else 0)

-- How many bytes go, from this one on: a backslash and the new-line directly behind it, and the carriage
-- return of another new-line.
unfoldable pub gone_length : ℕ → List ℕ → ℕ
gone_length c cs =
    if c == backslash then (if new_line_length cs == 0 then 0 else new_line_length cs + 1) else
    if c == carriage_return && begins line_feed cs then 1 else
    0

-- the characters left of the bytes from offset `at` on, of which the first `skip` go
unfoldable pub logical_from : ℕ → ℕ → List ℕ → List Character
logical_from skip at [] = []
logical_from (suc skip) at (c ∷ cs) = logical_from skip (at + 1) cs
logical_from zero at (c ∷ cs) =
    if gone_length c cs == 0 then character c at ∷ logical_from 0 (at + 1) cs else
    logical_from (gone_length c cs - 1) (at + 1) cs

-- the logical text of a file
unfoldable pub logical_of : List ℕ → List Character
logical_of bytes = logical_from 0 0 bytes

-- the bytes of characters
abbrev pub spelling : List Character → List ℕ
spelling characters = map (λ c. c.byte) characters

-- the line of a byte, from 1: one more than the line feeds before it
abbrev pub line_at : List ℕ → ℕ → ℕ
line_at bytes offset = 1 + count_by (λ b. b == line_feed) (take offset bytes)
