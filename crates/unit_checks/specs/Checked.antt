-- What a check of a workspace tells (this project's): a line for each unit that is not accepted, and how many are.
use Rattle.std.specs.Prelude.{ℕ, ◌+◌, nat_lt, is_none, if◌then◌else◌, Bool, Option, Some, None, List, [], ◌∷◌, ◌++◌, codes, decimal, length}
use Rattle.std.specs.Option.{option_map_or}
use Rattle.cs_base.specs.declared.positions.Place.{Place}
use Rattle.cs_base.specs.Units.{UnitValue}
use Rattle.cs_base.specs.Words.{words_of}
use Rattle.ws_file.specs.Workspace.{WorkspaceValue}
use Rattle.include_tree.specs.Below.source_files.Files.{Source}
use Rattle.analysis.specs.ClassReport.{place_text}
use Rattle.unit_checks.specs.declared.findings.Finding.{Finding}
use Rattle.unit_checks.specs.Findings.{unit_finding}

-- ---- lines

-- `: TOKEN`
abbrev pub token_text : Option (List ℕ) → List ℕ
token_text None = []
token_text (Some text) = codes ": " ++ text

-- ` from PLACE`
abbrev pub from_text : Option Place → List ℕ
from_text None = []
from_text (Some place) = codes " from " ++ place_text place

-- `unit N PATH: `
abbrev pub unit_name : ℕ → List ℕ → List ℕ
unit_name number path = codes "unit " ++ decimal number ++ codes " " ++ path ++ codes ": "

-- `: TOKEN from PLACE` and the end of the line
abbrev pub tail_text : Finding → List ℕ
tail_text f = token_text f.token ++ from_text f.from ++ codes "\n"

-- PLACE: WORDS: TOKEN from PLACE
abbrev pub finding_text : Finding → List ℕ
finding_text f = place_text f.place ++ codes ": " ++ words_of f.cause ++ tail_text f

-- unit N PATH: PLACE: WORDS: TOKEN from PLACE
abbrev pub finding_line : ℕ → List ℕ → Finding → List ℕ
finding_line number path f = unit_name number path ++ finding_text f

-- accepted N of M units
abbrev pub accepted_line : ℕ → ℕ → List ℕ
accepted_line count all = codes "accepted " ++ decimal count ++ codes " of " ++ decimal all ++ codes " units\n"

-- ---- units

-- the line of a unit, if something stands against it
abbrev pub unit_line : Source → ℕ → UnitValue → List ℕ
unit_line source number unit = option_map_or (finding_line number unit.path) (unit_finding source number unit) []

-- one for a unit against which nothing stands
abbrev pub unit_count : Source → ℕ → UnitValue → ℕ
unit_count source number unit = if is_none (unit_finding source number unit) then 1 else 0

-- the lines of the units from this number on, each by itself, and how many of them are accepted
unfoldable pub lines_from : Source → ℕ → List UnitValue → List ℕ
lines_from source number [] = []
lines_from source number (unit ∷ units) = unit_line source number unit ++ lines_from source (number + 1) units

unfoldable pub count_from : Source → ℕ → List UnitValue → ℕ
count_from source number [] = 0
count_from source number (unit ∷ units) = unit_count source number unit + count_from source (number + 1) units

-- ---- workspaces

abbrev pub accepted_count : Source → WorkspaceValue → ℕ
accepted_count source ws = count_from source 1 ws.units

-- all lines, in the order of the units, and the count
abbrev pub check_text : Source → WorkspaceValue → List ℕ
check_text source ws = lines_from source 1 ws.units ++ accepted_line (accepted_count source ws) (length ws.units)

-- some unit is not accepted
abbrev pub some_refused : Source → WorkspaceValue → Bool
some_refused source ws = nat_lt (accepted_count source ws) (length ws.units)
