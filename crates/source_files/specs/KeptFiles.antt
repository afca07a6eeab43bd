-- Files that are kept: what contracts see of a `KeptFile`, and which number has one.
use Rattle.std.specs.Prelude.{◌≡◌, ℕ, Option, Some, None, Ok, List, slice_get}
use Rattle.std.specs.Option.{option_map, option_and_then}
use Rattle.lexer.specs.FileText.{TextValue, file_text}
use Rattle.line_shape.specs.declared.items.Item.{Item}
use Rattle.line_shape.specs.Items.{items_of}
use Rattle.source_files.specs.Files.{Found, Opened, Made, Entry, Table}

-- A kept file: its number, its path and its bytes.
pub record KeptValue : Type 0 where
  pub number : ℕ
  pub path : List ℕ
  pub bytes : List ℕ

abbrev pub kept : ℕ → List ℕ → List ℕ → KeptValue
kept number path bytes = record { number = number; path = path; bytes = bytes }

-- What is true of the text and the items that are kept with such a file.
pub record IsKept (number : ℕ) (bytes : List ℕ) (text : TextValue) (items : List Item) : Type 0 where
  pub lexed : file_text number bytes ≡ Ok text
  pub shaped : items ≡ items_of text.toks text.firsts

-- the bytes of a file that has a text: it was opened, or made
abbrev pub kept_bytes : Found → Option (List ℕ)
kept_bytes (Opened bytes) = Some bytes
kept_bytes (Made bytes) = Some bytes
kept_bytes _ = None

-- the kept file of an entry with this number
abbrev pub kept_in : ℕ → Entry → Option KeptValue
kept_in number e = option_map (kept number e.path) (kept_bytes e.found)

-- the kept file of a number: none for the pseudo file of lines, for a path without a kept file, and past the table
abbrev pub kept_at : Table → ℕ → Option KeptValue
kept_at table number = option_and_then (kept_in number) (slice_get table number)
