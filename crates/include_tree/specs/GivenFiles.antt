-- Source files that are kept, as they are processed.
use Rattle.std.specs.Prelude.{◌≡◌, ℕ, Bool, true, false, Option, Some, None, List, [], Result, Ok, Err, IfSome}
use Rattle.cs_base.specs.declared.positions.Place.{Place}
use Rattle.cs_base.specs.Units.{UnitValue}
use Rattle.source_files.specs.Below.lexer.FileText.{file_text}
use Rattle.source_files.specs.declared.pre_fault.PreFault.{PreFault}
use Rattle.source_files.specs.Limits.{the_limits}
use Rattle.source_files.specs.Files.{Source, SourceFile, Table}
use Rattle.source_files.specs.Faults.{Fault}
use Rattle.source_files.specs.Opening.{Opening, opening}
use Rattle.source_files.specs.Search.{Searched}
use Rattle.unit_steps.specs.State.{Context, context, State, did, Outcome}
use Rattle.source_files.specs.Answers.{fault_of}
use Rattle.source_files.specs.Sources.{source_at}

-- What stays the same in this unit over this source, behind so many tokens of other units.
abbrev pub unit_context : Source → UnitValue → ℕ → Context
unit_context source unit earlier = context source file_text unit the_limits earlier

-- A step opened a file: its number is told, and it is kept; or the fault of the step, which yields to want of
-- memory and a failed read.
abbrev pub GivesFile : Result ℕ PreFault → Outcome SourceFile → Table → State → Type 0
GivesFile (Ok number) outcome table s =
    (file : SourceFile) × (source_at table number ≡ Some file)
    × ◌≡◌ {A = Outcome SourceFile} outcome (Ok (did file [] (record s { table = table })))
GivesFile (Err e) outcome table s = IfSome (fault_of e) (λ f. ◌≡◌ {A = Outcome SourceFile} outcome (Err f))

-- whether the file of an opening is there, and the table behind it
abbrev pub opens_there : Opening → Result (Bool × Table) Fault
opens_there (Ok r) = Ok (true, r.1)
opens_there (Err found) = Err found

-- whether a search found a file, which is opened then; a fault stands at this place
abbrev pub searched_there : Place → Searched → Option (List ℕ) → Result (Bool × Table) Fault
searched_there place found None = Ok (false, found.table)
searched_there place found (Some path) = opens_there (opening the_limits file_text place path found.table)

abbrev pub found_there : Place → Searched → Result (Bool × Table) Fault
found_there place found = searched_there place found found.path

-- A step told whether a file is there; or the fault of the step, which yields to want of memory and a failed read.
abbrev pub IsThere : Result Bool PreFault → Outcome Bool → Table → State → Type 0
IsThere (Ok b) outcome table s = ◌≡◌ {A = Outcome Bool} outcome (Ok (did b [] (record s { table = table })))
IsThere (Err e) outcome table s = IfSome (fault_of e) (λ f. ◌≡◌ {A = Outcome Bool} outcome (Err f))
