-- The text of a source file as contracts see it, or why there is none.
use Rattle.std.specs.Prelude.{◌≡◌, ℕ, zero, suc, nat_lt, if◌then◌else◌, Bool, List, length, Option, Some, None, Result, Ok, Err, unwrap_or}
use Rattle.std.specs.Option.{option_map, option_and_then}
use Rattle.cs_base.specs.Token.{Token}
use Rattle.cs_base.specs.Limits.{most_bytes}
use Rattle.lexer.specs.Logical.{logical_of}
use Rattle.lexer.specs.Lines.{line_column_of}
use Rattle.lexer.specs.Tokens.{tokens_of, firsts_of, open_comment_of}
use Rattle.lexer.specs.LineTable.{line_starts, place_in, offset_in, IsTable}
use Rattle.lexer.specs.GoneTable.{gone_of, marks_of, byte_in, character_in, IsGoneTable}

-- A text: its tokens, for each whether it is the first of its line, the number of its logical
-- characters and of its bytes, for each line the number of the bytes before it, and for each byte that
-- is no logical character its offset and the number of the logical characters before it.
pub record TextValue : Type 0 where
  pub toks : List Token
  pub firsts : List Bool
  pub len : ℕ
  pub size : ℕ
  pub starts : List ℕ
  pub gone : List ℕ
  pub marks : List ℕ

-- Why a file has no text: it is too large, or a comment that begins at this character, line and
-- column has no end.
pub data LexFault : Type 0 where
  FileTooLarge : LexFault
  OpenComment : ℕ → ℕ → ℕ → LexFault

-- the text of a file without such a comment, given by its number and its bytes
unfoldable pub text_value : ℕ → List ℕ → TextValue
text_value file bytes = record {
  toks = tokens_of file bytes;
  firsts = firsts_of bytes;
  len = length (logical_of bytes);
  size = length bytes;
  starts = line_starts bytes;
  gone = gone_of bytes;
  marks = marks_of bytes;
}

-- the fault of a comment that begins at this place
abbrev pub open_at : ℕ → ℕ × ℕ → LexFault
open_at at place = OpenComment at place.0 place.1

-- the text, or the fault of the comment without end; one that begins at a character has a place
abbrev pub text_or_open : ℕ → List ℕ → Option ℕ → Result TextValue LexFault
text_or_open file bytes None = Ok (text_value file bytes)
text_or_open file bytes (Some at) = Err (open_at at (unwrap_or (line_column_of bytes at) (0, 0)))

-- the text of a file, or the first fault
unfoldable pub file_text : ℕ → List ℕ → Result TextValue LexFault
file_text file bytes =
    if nat_lt most_bytes (length bytes) then Err FileTooLarge else
    text_or_open file bytes (open_comment_of bytes)

-- the byte of the file at which character `at` stands
abbrev pub byte_at : TextValue → ℕ → Option ℕ
byte_at text at = if nat_lt at text.len then Some (byte_in text.marks at) else None

-- the line and the column of character `at`
abbrev pub place_at : TextValue → ℕ → Option (ℕ × ℕ)
place_at text at = option_map (place_in text.starts) (byte_at text at)

-- the byte at a line and a column
abbrev pub place_byte : TextValue → ℕ → ℕ → Option ℕ
place_byte text zero column = None
place_byte text (suc lines) zero = None
place_byte text (suc lines) (suc n) = offset_in text.starts text.size lines n

-- the character at a line and a column
abbrev pub offset_at : TextValue → ℕ → ℕ → Option ℕ
offset_at text line column = option_and_then (character_in text.gone) (place_byte text line column)

-- What is true of every text.
pub record IsText (toks : List Token) (firsts : List Bool) (len size : ℕ) (starts gone marks : List ℕ) : Type 0 where
  pub each : length firsts ≡ length toks
  pub lines : IsTable size starts
  pub bytes : IsGoneTable len size gone marks
