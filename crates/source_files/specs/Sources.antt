-- Source files that are kept, as they are opened.
use Rattle.std.specs.Prelude.{◌≡◌, ℕ, ◌-◌, min, Option, Some, None, List, Result, Ok, Err, IfSome}
use Rattle.std.specs.Option.{option_and_then}
use Rattle.lexer.specs.FileText.{TextValue, LexFault, file_text}
use Rattle.cs_base.specs.declared.causes.Cause.TheVariants.{MissingFile}
use Rattle.cs_base.specs.declared.positions.Place.{Place}
use Rattle.cs_base.specs.Limits.{most_tokens, most_tokens_of_all}
use Rattle.source_files.specs.declared.pre_fault.PreFault.{PreFault}
use Rattle.source_files.specs.Limits.{the_limits}
use Rattle.source_files.specs.Files.{SourceFile, source_file, Table}
use Rattle.source_files.specs.KeptFiles.{KeptValue, kept_at}
use Rattle.source_files.specs.Faults.{fault}
use Rattle.source_files.specs.Search.{Searched}
use Rattle.source_files.specs.Opening.{Opening, opening}
use Rattle.source_files.specs.Answers.{fault_of}

-- the source file of a text that was read
abbrev pub read_as : ℕ → List ℕ → Result TextValue LexFault → Option SourceFile
read_as number path (Ok text) = Some (source_file number path text)
read_as number path (Err fault) = None

-- that of a kept file
abbrev pub source_kept : KeptValue → Option SourceFile
source_kept k = read_as k.number k.path (file_text k.number k.bytes)

-- the source file that is kept under a number
abbrev pub source_at : Table → ℕ → Option SourceFile
source_at table number = option_and_then source_kept (kept_at table number)

-- how many tokens the unit may have
abbrev pub unit_most : ℕ → ℕ
unit_most earlier = min most_tokens (most_tokens_of_all - earlier)

-- An opening as it is answered: the number of its file is told, which is kept; or its fault, which yields to
-- want of memory and a failed read.
abbrev pub GivesOpening : Result ℕ PreFault → Opening → Table → Type 0
GivesOpening (Ok number) expected table =
    (file : SourceFile) × (source_at table number ≡ Some file) × ◌≡◌ {A = Opening} expected (Ok (file, table))
GivesOpening (Err e) expected table = IfSome (fault_of e) (λ f. ◌≡◌ {A = Opening} expected (Err f))

-- the file that a search found, opened, or none; a fault stands at this place
abbrev pub opening_searched : Place → Searched → Option (List ℕ) → Opening
opening_searched place found None = Err (fault place MissingFile)
opening_searched place found (Some path) = opening the_limits file_text place path found.table

-- that of a search
abbrev pub opening_found : Place → Searched → Opening
opening_found place found = opening_searched place found found.path
