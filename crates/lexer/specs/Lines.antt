-- Lines and columns of a source file, as a person counts them: both from 1. A line feed is the last
-- byte of its line.
use Rattle.std.specs.Prelude.{ℕ, zero, suc, ◌+◌, ◌==◌, if◌then◌else◌, List, [], ◌∷◌, Option, Some, None, slice_get}
use Rattle.std.specs.Option.{option_map, option_and_then}
use Rattle.lexer.specs.Characters.{line_feed}
use Rattle.lexer.specs.Logical.{Character, logical_of}

-- the line and the column of the byte that k others precede, where the first has these
abbrev pub place_from : ℕ → ℕ → List ℕ → ℕ → Option (ℕ × ℕ)
place_from line column [] k = None
place_from line column (c ∷ cs) zero = Some (line, column)
place_from line column (c ∷ cs) (suc k) =
    if c == line_feed then place_from (line + 1) 1 cs k else place_from line (column + 1) cs k

-- the line and the column of the byte at this offset, or none where there is no such byte
unfoldable pub place_of_byte : List ℕ → ℕ → Option (ℕ × ℕ)
place_of_byte bytes offset = place_from 1 1 bytes offset

-- the byte behind this many line feeds and then this many bytes of one line, where the first has
-- offset `at`
abbrev pub offset_from : ℕ → List ℕ → ℕ → ℕ → Option ℕ
offset_from at [] lines bytes = None
offset_from at (c ∷ cs) zero zero = Some at
offset_from at (c ∷ cs) zero (suc n) = if c == line_feed then None else offset_from (at + 1) cs zero n
offset_from at (c ∷ cs) (suc lines) n =
    offset_from (at + 1) cs (if c == line_feed then lines else suc lines) n

-- the offset of the byte at a line and a column, or none where there is no such byte
unfoldable pub byte_at_place : List ℕ → ℕ → ℕ → Option ℕ
byte_at_place bytes zero column = None
byte_at_place bytes (suc lines) zero = None
byte_at_place bytes (suc lines) (suc n) = offset_from 0 bytes lines n

-- the offset of the byte at which logical character `at` stands, or none where there is no such one
unfoldable pub byte_offset_of : List ℕ → ℕ → Option ℕ
byte_offset_of bytes at = option_map (λ c. c.offset) (slice_get (logical_of bytes) at)

-- the line and the column of logical character `at`, or none where there is no such character
unfoldable pub line_column_of : List ℕ → ℕ → Option (ℕ × ℕ)
line_column_of bytes at = option_and_then (place_of_byte bytes) (byte_offset_of bytes at)

-- the number of the character that stands at this offset, or none where none does
abbrev pub index_in : List Character → ℕ → Option ℕ
index_in [] offset = None
index_in (c ∷ cs) offset = if c.offset == offset then Some 0 else option_map (λ n. n + 1) (index_in cs offset)

-- the logical character at a line and a column, or none where there is no such character
unfoldable pub offset_of : List ℕ → ℕ → ℕ → Option ℕ
offset_of bytes line column = option_and_then (index_in (logical_of bytes)) (byte_at_place bytes line column)
