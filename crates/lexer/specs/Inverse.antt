-- Lines and columns of the characters of a file tell them apart (this project's, over ISO/IEC 9899:1999, 5.1.1.2
-- phases 1 and 2).
use Rattle.std.specs.Prelude.{ℕ, ◌≡◌, ◌↔◌, List, Some, IsSome}
use Rattle.lexer.specs.Lines.{byte_offset_of, line_column_of, offset_of}

-- A character has this line and column exactly where it is the one that stands there.
abbrev pub PlacesAreInverse : Type 0
PlacesAreInverse = (bytes : List ℕ) (at line column : ℕ)
    → (line_column_of bytes at ≡ Some (line, column)) ↔ (offset_of bytes line column ≡ Some at)

-- Each character has a line and a column.
abbrev pub CharactersHavePlaces : Type 0
CharactersHavePlaces = (bytes : List ℕ) (at : ℕ) → IsSome (byte_offset_of bytes at) → IsSome (line_column_of bytes at)
