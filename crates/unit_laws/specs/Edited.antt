-- Files whose bytes change, path by path (this project's), as those in which the items of lists change places.
use Rattle.std.specs.Prelude.{◌≡◌, ℕ, List, map}
use Rattle.std.specs.Option.{option_map}
use Rattle.source_files.specs.Files.{Source, Found, Lines, Absent, Unopened, Opened, Made, Entry, entry, Table, Carried, carried}
use Rattle.unit_steps.specs.State.{State}

-- the new bytes of a file, by its path and its bytes
abbrev pub Edit : Type 0
Edit = List ℕ → List ℕ → List ℕ

-- what a number stands for, edited: what the program makes stays
abbrev pub edited_found : (List ℕ → List ℕ) → Found → Found
edited_found one Lines = Lines
edited_found one Absent = Absent
edited_found one (Unopened bytes) = Unopened (one bytes)
edited_found one (Opened bytes) = Opened (one bytes)
edited_found one (Made bytes) = Made bytes

-- the same of an entry, of a table, of what is carried from unit to unit, of a state, and of what paths hold
abbrev pub edited_entry : Edit → Entry → Entry
edited_entry edit e = entry e.path (edited_found (edit e.path) e.found)

abbrev pub edited_files : Edit → Table → Table
edited_files edit table = map (edited_entry edit) table

abbrev pub edited_carried : Edit → Carried → Carried
edited_carried edit before = carried (edited_files edit before.table) before.toks

abbrev pub edited_state : Edit → State → State
edited_state edit s = record s { table = edited_files edit s.table }

abbrev pub edited_source : Edit → Source → Source
edited_source edit old path = option_map (edit path) (old path)

-- the new source holds the edited bytes
abbrev pub IsEditedSource : Edit → Source → Source → Type 0
IsEditedSource edit old new = (path : List ℕ) → new path ≡ edited_source edit old path
