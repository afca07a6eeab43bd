-- What the table of files keeps from step to step: numbers, paths, and what files hold.
use Rattle.std.specs.Prelude.{◌≡◌, ℕ, true, ◌⊎◌, List, [], ◌∷◌, map, Option, None, Some, IfSome, slice_get}
use Rattle.std.specs.List.{list_all}
use Rattle.std.specs.Str.{is_utf8}
use Rattle.cs_base.specs.Outside.{FileMap}
use Rattle.line_shape.specs.MacroLine.{are_distinct}
use Rattle.source_files.specs.Files.{Source, source_of, Found, Lines, Absent, Unopened, Opened, Entry, entry, Table, lines_path, files_opened, bytes_opened}

-- what a number stands for stays, but that a file is opened once
abbrev pub Becomes : Found → Found → Type 0
Becomes old new = (new ≡ old) ⊎ ((bytes : List ℕ) × (old ≡ Unopened bytes) × (new ≡ Opened bytes))

-- numbers keep their paths, and new ones come behind
abbrev pub IsGrown : Table → Table → Type 0
IsGrown [] new = Unit {0}
IsGrown (e ∷ old) [] = ⊥
IsGrown (e ∷ old) (f ∷ new) = (f.path ≡ e.path) × Becomes e.found f.found × IsGrown old new

-- what a number stands for is what the source holds
abbrev pub IsFound : Source → List ℕ → Found → Type 0
IsFound source path Absent = source path ≡ None
IsFound source path (Unopened bytes) = source path ≡ Some bytes
IsFound source path (Opened bytes) = source path ≡ Some bytes
IsFound source path _ = Unit {0}

abbrev pub AreFound : Source → Table → Type 0
AreFound source [] = Unit {0}
AreFound source (e ∷ table) = IsFound source e.path e.found × AreFound source table

-- A source that holds what a table tells holds what an earlier one told.
abbrev pub EarlierFound : Type 0
EarlierFound = (source : Source) (old new : Table) → IsGrown old new → AreFound source new → AreFound source old

-- the paths that have a number
abbrev pub paths_in : Table → List (List ℕ)
paths_in table = map (λ (e : Entry). e.path) table

-- each path has one number, so it is asked for once
abbrev pub HasEachOnce : Table → Type 0
HasEachOnce table = are_distinct (paths_in table) ≡ true

-- A source agrees with each table that has each path once.
abbrev pub SomeAgrees : Type 0
SomeAgrees = (table : Table) → HasEachOnce table → (source : Source) × AreFound source table

-- number 0 is that of the pseudo file of lines
abbrev pub BeginsWithLines : Table → Type 0
BeginsWithLines table = slice_get table 0 ≡ Some (entry lines_path Lines)

-- each path is text
abbrev pub AreText : Table → Type 0
AreText table = list_all is_utf8 (paths_in table) ≡ true

-- The table only grows, stays what the source holds, and has each path once.
pub record Widens (source : Source) (old new : Table) : Type 0 where
  pub grown : IsGrown old new
  pub found : AreFound source old → AreFound source new
  pub once : HasEachOnce old → HasEachOnce new

-- It stays what files hold, where that is told.
abbrev pub StaysHeld : Option FileMap → Table → Table → Type 0
StaysHeld told old new = IfSome told (λ held. AreFound (source_of held) old → AreFound (source_of held) new)

-- A table that was asked for paths of files: it has grown, stays what they hold, and nothing more is opened.
pub record OnlyAsks (told : Option FileMap) (old new : Table) : Type 0 where
  pub grown : IsGrown old new
  pub found : StaysHeld told old new
  pub files : files_opened new ≡ files_opened old
  pub bytes : bytes_opened new ≡ bytes_opened old
