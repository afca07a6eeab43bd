-- Where included files are looked for (ISO/IEC 9899:1999, 6.10.2 paragraphs 2 and 3; the places are this
-- project's own).
use Rattle.std.specs.Prelude.{ℕ, ◌+◌, ◌==◌, Bool, true, not, ◌&&◌, ◌||◌, length, drop, if◌then◌else◌, Option, None, Some, List, [], ◌∷◌, ◌++◌, map, filter}
use Rattle.std.specs.List.{list_any, before_last}
use Rattle.std.specs.Str.{bytes_eq, is_utf8}
use Rattle.cs_base.specs.Paths.{slash, is_absolute, joined_path_of}
use Rattle.cs_base.specs.Units.{UnitValue, is_gnu, less_sign, begins_with}
use Rattle.source_files.specs.Files.{Source, Found, Lines, Absent, Table, found_at, asked}

-- What an include line asks for: a name, and whether it is looked for in the directory of the file too.
pub record Header : Type 0 where
  pub quoted : Bool
  pub name : List ℕ

abbrev pub header : Bool → List ℕ → Header
header quoted name = record { quoted = quoted; name = name }

abbrev pub is_slash : ℕ → Bool
is_slash c = c == slash

-- the directory that these bytes before its last `/` name: the root where there are none
abbrev pub or_root : List ℕ → List ℕ
or_root [] = slash ∷ []
or_root (c ∷ cs) = c ∷ cs

-- the directory of a file: the empty one where its path has no `/`
abbrev pub directory_of : List ℕ → List ℕ
directory_of path = if list_any is_slash path then or_root (before_last is_slash path) else []

-- A directory in which a name is looked for, and how many of the unit's directories go before where the search for a
-- next file of the name begins: in GNU C behind the directory in which the present one was found.
pub record Place : Type 0 where
  pub directory : List ℕ
  pub behind : ℕ

abbrev pub place : ℕ → List ℕ → Place
place behind directory = record { directory = directory; behind = behind }

-- the directories of a list, so many standing before them
abbrev pub places_from : ℕ → List (List ℕ) → List Place
places_from before [] = []
places_from before (d ∷ directories) = place (before + 1) d ∷ places_from (before + 1) directories

-- all directories of a unit, those of quoted names alone first
abbrev pub all_places : UnitValue → List Place
all_places unit = places_from 0 (unit.qpath ++ unit.ipath)

-- how many of them are passed over: by a line that asks for the next file of the name, where that is known; by a name
-- that is not quoted, those of quoted names; and for another name that of the file is asked first
abbrev pub passed_for : Bool → Header → Option ℕ → UnitValue → Option ℕ
passed_for true h (Some behind) unit = Some behind
passed_for next h behind unit = if h.quoted then None else Some (length unit.qpath)

abbrev pub places_behind : List ℕ → UnitValue → Option ℕ → List Place
places_behind path unit (Some passed) = drop passed (all_places unit)
places_behind path unit None = place 0 (directory_of path) ∷ all_places unit

-- those in which a line of a file of this path has a name looked for
abbrev pub places_for : Bool → Header → Option ℕ → List ℕ → UnitValue → List Place
places_for next h behind path unit = places_behind path unit (passed_for next h behind unit)

-- a path that can be asked for: it is text, and no name of a pseudo file
abbrev pub can_be_asked : List ℕ → Bool
can_be_asked path = is_utf8 path && not (begins_with (λ c. c == less_sign) path)

-- the paths of a name in directories that can be asked for, in order
abbrev pub paths_in : List ℕ → List Place → List (List ℕ)
paths_in name places = filter can_be_asked (map (λ (p : Place). joined_path_of p.directory name) places)

-- the paths that are asked for, in order
abbrev pub candidates_of : Bool → Header → Option ℕ → List ℕ → UnitValue → List (List ℕ)
candidates_of next h behind path unit = paths_in h.name (places_for next h behind path unit)

-- how many directories go before a next search, by the first of the directories in which this path is found
abbrev pub behind_in : List ℕ → List ℕ → List Place → Option ℕ
behind_in name found [] = None
behind_in name found (p ∷ places) =
    if bytes_eq (joined_path_of p.directory name) found then Some p.behind else behind_in name found places

-- The same in a file that is found so. None where the name is absolute, and in units of another standard, where nothing
-- asks for it.
abbrev pub behind_of : Bool → Header → Option ℕ → List ℕ → UnitValue → List ℕ → Option ℕ
behind_of next h behind path unit found =
    if not (is_gnu unit.standard) || is_absolute h.name then None
    else behind_in h.name found (places_for next h behind path unit)

-- The first of the paths that is there, if one is, and the table behind the search.
pub record Searched : Type 0 where
  pub path : Option (List ℕ)
  pub table : Table

abbrev pub searched : Option (List ℕ) → Table → Searched
searched path table = record { path = path; table = table }

-- a path that was asked for: the search ends with it, or goes on
abbrev pub search_on : List ℕ → Table → (Table → Searched) → Option Found → Searched
search_on path table rest None = rest table
search_on path table rest (Some Lines) = rest table
search_on path table rest (Some Absent) = rest table
search_on path table rest (Some _) = searched (Some path) table

-- the search through these paths
unfoldable pub search : Source → List (List ℕ) → Table → Searched
search source [] table = searched None table
search source (path ∷ paths) table =
    search_on path (asked source path table) (search source paths) (found_at path (asked source path table))
