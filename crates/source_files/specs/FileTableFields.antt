-- The private fields of the table of files as plain values.
use Rattle.std.specs.Prelude.{◌≡◌, ◌<◌, ◌+◌, ◌-◌, ◌^◌, ℕ, Bool, true, false, List, [], ◌∷◌, length, map, Option, Some}
use Rattle.std.specs.List.{list_all}
use Rattle.std.specs.Str.{is_utf8}
use Rattle.line_shape.specs.MacroLine.{are_distinct}
use Rattle.source_files.specs.declared.slot.Slot.{Slot}
use Rattle.source_files.specs.declared.file_table.FileTable.TheInside.{Inside}
use Rattle.source_files.specs.Files.{Found, Lines, Unopened, entry, Table, lines_path, number_of, found_at}
use Rattle.source_files.specs.Slots.{found_of, IsNumbered}

-- the entries of paths with what they stand for
abbrev pub entries_of : List (List ℕ) → List Slot → Table
entries_of [] slots = []
entries_of (path ∷ paths) [] = []
entries_of (path ∷ paths) (s ∷ slots) = entry path (found_of s) ∷ entries_of paths slots

-- the table of them: the first path has number 1
abbrev pub table_of : List (List ℕ) → List Slot → Table
table_of paths slots = entry lines_path Lines ∷ entries_of paths slots

-- each file that is kept has its number and its path
abbrev pub AreNumbered : ℕ → List (List ℕ) → List Slot → Type 0
AreNumbered number [] slots = Unit {0}
AreNumbered number (path ∷ paths) [] = Unit {0}
AreNumbered number (path ∷ paths) (s ∷ slots) = IsNumbered number path s × AreNumbered (number + 1) paths slots

-- the paths, and the table, of the fields
abbrev pub paths_in : Inside → List (List ℕ)
paths_in t = map (λ k. k.items) t.paths.keys

abbrev pub table_in : Inside → Table
table_in t = table_of (paths_in t) t.slots.items

-- What is true of the fields of every table.
pub record IsFileTable (paths : List (List ℕ)) (slots : List Slot) : Type 0 where
  pub each : length slots ≡ length paths
  pub numbered : AreNumbered 1 paths slots
  pub few : length slots < 2 ^ 32 - 1
  pub once : are_distinct (lines_path ∷ paths) ≡ true
  pub text : list_all is_utf8 paths ≡ true

-- What a look-up of a path gives: its number and what it stands for.
pub record Stands (table : Table) (path : List ℕ) (number : ℕ) (s : Slot) : Type 0 where
  pub number_is : number_of path table ≡ number
  pub found : found_at path table ≡ Some (found_of s)
  pub numbered : IsNumbered number path s

-- a path is there, and its file was not opened without a fault
abbrev pub is_unread : Option Found → Bool
is_unread (Some (Unopened bytes)) = true
is_unread _ = false

-- its bytes
abbrev pub unread_bytes : Option Found → List ℕ
unread_bytes (Some (Unopened bytes)) = bytes
unread_bytes _ = []
