-- A table of files whose kept files are edited one by one.
use Rattle.std.specs.Prelude.{ℕ, zero, suc, ◌≡◌, ◌≤◌, ◌==◌, Bool, false, Option, Some, None, List, [], ◌∷◌, ◌++◌, drop}
use Rattle.std.specs.Option.{option_map_or}
use Rattle.analysis.specs.Below.lexer.Lines.{byte_offset_of}
use Rattle.analysis.specs.Below.lexer.Logical.{logical_of}
use Rattle.analysis.specs.Below.lexer.Respelling.{Put, edited}
use Rattle.part_respell.specs.Walk.{edited_at}
use Rattle.include_tree.specs.Below.source_files.Files.{Table, Found, Lines, Absent, Unopened, Opened, Made, entry}
use Rattle.include_tree.specs.Below.source_files.KeptFiles.{KeptValue}
use Rattle.analysis.specs.Changed.{Editing}

-- a kept file with its new bytes; what is not kept stays
abbrev pub kept_edited : (List ℕ → List ℕ) → Found → Found
kept_edited edit Lines = Lines
kept_edited edit Absent = Absent
kept_edited edit (Unopened bytes) = Unopened bytes
kept_edited edit (Opened bytes) = Opened (edit bytes)
kept_edited edit (Made bytes) = Made (edit bytes)

-- one entry is edited so
unfoldable pub edited_one : (List ℕ → List ℕ) → ℕ → Table → Table
edited_one edit number [] = []
edited_one edit zero (e ∷ table) = entry e.path (kept_edited edit e.found) ∷ table
edited_one edit (suc number) (e ∷ table) = e ∷ edited_one edit number table

-- so many entries, from this number on, are
unfoldable pub edited_front : Editing → ℕ → ℕ → Table → Table
edited_front edit number zero table = table
edited_front edit number (suc count) [] = []
edited_front edit number (suc count) (e ∷ table) = entry e.path (kept_edited (edit number) e.found) ∷ edited_front edit (suc number) count table

-- the new bytes of a kept file, or none where they stay
abbrev pub IsNew : (List ℕ → List ℕ) → Option KeptValue → Option (List ℕ) → Type 0
IsNew edit None None = Unit {0}
IsNew edit (Some f) None = edit f.bytes ≡ f.bytes
IsNew edit (Some f) (Some bytes) = bytes ≡ edit f.bytes
IsNew edit None (Some bytes) = ⊥

-- the byte at an offset is character `at`
abbrev pub stands_at : List ℕ → ℕ → ℕ → Bool
stands_at bytes at offset = option_map_or (λ byte. byte == offset) (byte_offset_of bytes at) false

-- What is made of the bytes before an offset, where character `at` comes next.
pub record IsMade (put : Put) (bytes out : List ℕ) (offset at : ℕ) : Type 0 where
  pub made : out ++ edited_at put at (drop at (logical_of bytes)) offset (drop offset bytes) ≡ edited put bytes
  pub behind : at ≤ offset
