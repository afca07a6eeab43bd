-- From a position to its byte, and from a place back to its position (this project's). Columns count bytes as they
-- stand in the file, so that the byte of a character is that of its place.
use Rattle.std.specs.Prelude.{ℕ, ◌≡◌, ◌↔◌, ◌⊎◌, ◌<◌, ◌+◌, ◌-◌, ◌*◌, ◌^◌, ◌&&◌, nat_le, if◌then◌else◌, Bool, Option, Some, None, IsSome, List}
use Rattle.std.specs.Option.{option_and_then}
use Rattle.std.specs.Str.{bytes_eq}
use Rattle.cs_base.specs.declared.positions.Place.{Place}
use Rattle.cs_base.specs.declared.positions.Pos.{Pos}
use Rattle.lexer.specs.Lines.{byte_offset_of}
use Rattle.lexer.specs.Places.{pos}
use Rattle.include_tree.specs.Below.source_files.Files.{Table, lines_path}
use Rattle.include_tree.specs.Below.source_files.KeptFiles.{KeptValue, kept_at}
use Rattle.analysis.specs.Naming.{character_of, file_named}
use Rattle.analysis.specs.Places.{digits_apart, place_at}

-- ---- bytes

-- the byte of a file at which its character begins
abbrev pub byte_in_file : Pos → KeptValue → Option ℕ
byte_in_file at file = byte_offset_of file.bytes at.at

-- The byte of its file at which the character of a position begins. The pseudo file of lines has no bytes that are
-- kept, and so it is with a path that has no file.
abbrev pub byte_at : Table → Pos → Option ℕ
byte_at table at = option_and_then (byte_in_file at) (kept_at table at.file)

-- ---- positions

-- A position is one of a file where it is a character of a kept one, or one of the pseudo file of lines, whose
-- characters have numbers of 32 bits.
abbrev pub StandsIn : Table → Pos → Type 0
StandsIn table p = IsSome (byte_at table p) ⊎ ((p.file ≡ 0) × (p.at < 2 ^ 32))

-- The position at a place: the one of a file that has this place, or none.
abbrev pub IsPositionAt : Table → Place → Option Pos → Type 0
IsPositionAt table place found = (p : Pos) → (found ≡ Some p) ↔ (StandsIn table p × (place_at table p ≡ place))

-- ---- positions, found by a path

-- the last line of the pseudo file of lines that begins at a character below 2 ^ 32
abbrev pub most_lines : ℕ
most_lines = 2 ^ 29

abbrev pub has_place_in_lines : ℕ → ℕ → Bool
has_place_in_lines line column = nat_le 1 line && nat_le line most_lines && nat_le 1 column && nat_le column digits_apart

-- the position in the pseudo file of lines that stands at a line and a column
abbrev pub position_in_lines : ℕ → ℕ → Option Pos
position_in_lines line column =
    if has_place_in_lines line column then Some (pos 0 ((line - 1) * digits_apart + (column - 1))) else None

-- The position at a place: one in the pseudo file of lines, or a character of the kept file of the path.
abbrev pub position_at : Table → List ℕ → ℕ → ℕ → Option Pos
position_at table path line column =
    if bytes_eq path lines_path then position_in_lines line column else option_and_then (character_of line column) (file_named path 0 table)
