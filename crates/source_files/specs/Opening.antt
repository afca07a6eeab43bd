-- Opening a source file: what can stand against it, and what is named first.
use Rattle.std.specs.Prelude.{ℕ, ◌+◌, Bool, true, false, not, ◌&&◌, nat_le, nat_lt, if◌then◌else◌, Option, None, Some, List, Result, Ok, Err, length}
use Rattle.cs_base.specs.declared.causes.Cause.TheVariants as cause
use Rattle.cs_base.specs.declared.positions.Place.{Place}
use Rattle.lexer.specs.FileText.{TextValue, LexFault, FileTooLarge, OpenComment}
use Rattle.source_files.specs.Limits.{Limits}
use Rattle.source_files.specs.Files.{Found, Lines, Absent, Unopened, Opened, Made, Table, SourceFile, source_file, number_of, found_at, opened, files_opened, bytes_opened}
use Rattle.source_files.specs.Faults.{Fault, fault, place_of}

-- How a file is read, given by its number and its bytes: its text, or why there is none.
abbrev pub Reader : Type 0
Reader = ℕ → List ℕ → Result TextValue LexFault

-- what opening gives: the file, and the table behind it; or the first fault
abbrev pub Opening : Type 0
Opening = Result (SourceFile × Table) Fault

-- the file of a text that was read, or why there is none; a file that is too large has no place of its own
abbrev pub file_read : Place → ℕ → List ℕ → Table → Result TextValue LexFault → Opening
file_read place number path table (Ok text) = Ok (source_file number path text, table)
file_read place number path table (Err FileTooLarge) = Err (fault place cause.FileTooLarge)
file_read place number path table (Err (OpenComment at line column)) =
    Err (fault (place_of path (line, column)) cause.OpenComment)

abbrev pub is_too_large : Result TextValue LexFault → Bool
is_too_large (Err FileTooLarge) = true
is_too_large _ = false

-- the file of a path with these bytes, which leaves this table
abbrev pub readable : Reader → Place → List ℕ → List ℕ → Table → Opening
readable reader place path bytes table =
    file_read place (number_of path table) path table (reader (number_of path table) bytes)

-- the bytes of all files, with these, are too many; a file that is too large is named before
abbrev pub are_too_many : Limits → Reader → List ℕ → List ℕ → Table → Bool
are_too_many limits reader path bytes table =
    not (is_too_large (reader (number_of path table) bytes)) && nat_lt limits.all_bytes (bytes_opened table + length bytes)

-- a file that is opened for the first time
abbrev pub first_opened : Limits → Reader → Place → List ℕ → List ℕ → Table → Opening
first_opened limits reader place path bytes table =
    if nat_le limits.files (files_opened table) then Err (fault place cause.TooManyFiles) else
    if are_too_many limits reader path bytes table then Err (fault place cause.TooManyBytes) else
    readable reader place path bytes (opened path bytes table)

-- the file of a path by what its number stands for; a fault of opening it stands at this place
abbrev pub opened_as : Limits → Reader → Place → List ℕ → Table → Option Found → Opening
opened_as limits reader place path table None = Err (fault place cause.MissingFile)
opened_as limits reader place path table (Some Lines) = Err (fault place cause.MissingFile)
opened_as limits reader place path table (Some Absent) = Err (fault place cause.MissingFile)
opened_as limits reader place path table (Some (Unopened bytes)) = first_opened limits reader place path bytes table
opened_as limits reader place path table (Some (Opened bytes)) = readable reader place path bytes table
opened_as limits reader place path table (Some (Made bytes)) = readable reader place path bytes table

abbrev pub opening : Limits → Reader → Place → List ℕ → Table → Opening
opening limits reader place path table = opened_as limits reader place path table (found_at path table)
