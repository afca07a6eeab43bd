-- Source files and their numbers (ISO/IEC 9899:1999, 5.1.1.1): what is read of each, and what is kept from
-- unit to unit.
use Rattle.std.specs.Prelude.{ℕ, ◌+◌, if◌then◌else◌, Bool, true, false, Option, None, Some, List, [], ◌∷◌, ◌++◌, codes, length, is_some, slice_get}
use Rattle.std.specs.Fmt.{decimal}
use Rattle.std.specs.List.{position_or_len}
use Rattle.std.specs.Option.{option_map, option_map_or}
use Rattle.std.specs.Str.{bytes_eq}
use Rattle.cs_base.specs.Outside.{FileMap, bytes_at}
use Rattle.lexer.specs.FileText.{TextValue}

-- What a path holds: its bytes, or none where it is not there.
abbrev pub Source : Type 0
Source = List ℕ → Option (List ℕ)

-- the same for files that are told
abbrev pub source_of : FileMap → Source
source_of files path = bytes_at path files

-- What a number stands for: the pseudo file in which the numbers of lines stand, which is never opened; a
-- path without a file; a file that is there and was not opened without a fault; one that was; or a pseudo
-- file whose text the program makes.
pub data Found : Type 0 where
  Lines : Found
  Absent : Found
  Unopened : List ℕ → Found
  Opened : List ℕ → Found
  Made : List ℕ → Found

-- a path and what it stands for
pub record Entry : Type 0 where
  pub path : List ℕ
  pub found : Found

abbrev pub entry : List ℕ → Found → Entry
entry path found = record { path = path; found = found }

-- The paths that have a number, which is their place here.
abbrev pub Table : Type 0
Table = List Entry

-- the number of a path, or how many there are where it has none
abbrev pub number_of : List ℕ → Table → ℕ
number_of path table = position_or_len (λ e. bytes_eq path e.path) table

-- what a path stands for, if it has a number
unfoldable pub found_at : List ℕ → Table → Option Found
found_at path [] = None
found_at path (e ∷ table) = if bytes_eq path e.path then Some e.found else found_at path table

-- its number, if it has one
abbrev pub number_at : List ℕ → Table → Option ℕ
number_at path table = if is_some (found_at path table) then Some (number_of path table) else None

-- nothing was there where a path was asked for
abbrev pub is_absent : Found → Bool
is_absent Absent = true
is_absent _ = false

-- so it was for the path of a number
abbrev pub is_absent_at : Table → ℕ → Bool
is_absent_at table number = option_map_or (λ (e : Entry). is_absent e.found) (slice_get table number) false

-- that path, if so
abbrev pub absent_at : Table → ℕ → Option (List ℕ)
absent_at table number = if is_absent_at table number then option_map (λ (e : Entry). e.path) (slice_get table number) else None

-- the table with one number more
abbrev pub numbered : List ℕ → Found → Table → Table
numbered path found table = table ++ entry path found ∷ []

-- what is read of a path
abbrev pub found_in : Option (List ℕ) → Found
found_in None = Absent
found_in (Some bytes) = Unopened bytes

-- the table once a path is asked for: only the first time is it read, and gets its number
abbrev pub asked : Source → List ℕ → Table → Table
asked source path table =
    if is_some (found_at path table) then table else numbered path (found_in (source path)) table

-- the table once the file of a path is opened, which has these bytes
unfoldable pub opened : List ℕ → List ℕ → Table → Table
opened path bytes [] = []
opened path bytes (e ∷ table) =
    if bytes_eq path e.path then entry path (Opened bytes) ∷ table else e ∷ opened path bytes table

-- the bytes of a file that was opened
abbrev pub opened_bytes : Found → Option (List ℕ)
opened_bytes (Opened bytes) = Some bytes
opened_bytes _ = None

-- a pseudo file with this text
abbrev pub is_made : List ℕ → Found → Bool
is_made text (Made bytes) = bytes_eq bytes text
is_made text _ = false

-- the path of the first pseudo file with this text, if there is one
unfoldable pub made_path : List ℕ → Table → Option (List ℕ)
made_path text [] = None
made_path text (e ∷ table) = if is_made text e.found then Some e.path else made_path text table

-- how many files and bytes one more makes
abbrev pub one_more : Option (List ℕ) → ℕ → ℕ
one_more None count = count
one_more (Some bytes) count = count + 1

abbrev pub more_bytes : Option (List ℕ) → ℕ → ℕ
more_bytes None count = count
more_bytes (Some bytes) count = count + length bytes

-- how many files were opened, pseudo files not counted, and how many bytes they have together
unfoldable pub files_opened : Table → ℕ
files_opened [] = 0
files_opened (e ∷ table) = one_more (opened_bytes e.found) (files_opened table)

unfoldable pub bytes_opened : Table → ℕ
bytes_opened [] = 0
bytes_opened (e ∷ table) = more_bytes (opened_bytes e.found) (bytes_opened table)

-- the pseudo file in which the numbers of lines stand
abbrev pub lines_path : List ℕ
lines_path = codes "<lines>"

-- the pseudo file that a unit begins with
abbrev pub defines_path : ℕ → List ℕ
defines_path unit = codes "<defines " ++ decimal unit ++ codes ">"

-- What is kept from unit to unit: what each number stands for, and how many tokens the units had.
pub record Carried : Type 0 where
  pub table : Table
  pub toks : ℕ

abbrev pub carried : Table → ℕ → Carried
carried table toks = record { table = table; toks = toks }

-- before the first unit: number 0 is the pseudo file of lines
abbrev pub nothing_carried : Carried
nothing_carried = carried (entry lines_path Lines ∷ []) 0

-- A source file that is processed: its number, its path and its text.
pub record SourceFile : Type 0 where
  pub number : ℕ
  pub path : List ℕ
  pub text : TextValue

abbrev pub source_file : ℕ → List ℕ → TextValue → SourceFile
source_file number path text = record { number = number; path = path; text = text }
