-- A kept file that gets other bytes, as an edit of it does.
use Rattle.std.specs.Prelude.{ℕ, zero, suc, ◌+◌, ◌-◌, nat_lt, if◌then◌else◌, List, [], ◌∷◌, Option, Some, None, Result, Ok, Err, slice_get, length}
use Rattle.std.specs.Option.{option_map, option_and_then}
use Rattle.lexer.specs.FileText.{TextValue, LexFault, file_text}
use Rattle.lexer.specs.Refusal.{fault_of as lex_fault_of}
use Rattle.source_files.specs.declared.edit_refusal.EditRefusal.{EditRefusal}
use Rattle.source_files.specs.declared.edit_refusal.EditRefusal.TheVariants as refusal
use Rattle.source_files.specs.Limits.{the_limits}
use Rattle.source_files.specs.Files.{Found, Opened, Made, Entry, entry, Table, opened_bytes, bytes_opened}

-- a kept file with these bytes
abbrev pub with_bytes : List ℕ → Found → Found
with_bytes bytes (Opened old) = Opened bytes
with_bytes bytes (Made old) = Made bytes
with_bytes bytes found = found

-- the table in which the kept file of a number has these bytes
unfoldable pub edited : ℕ → List ℕ → Table → Table
edited number bytes [] = []
edited zero bytes (e ∷ table) = entry e.path (with_bytes bytes e.found) ∷ table
edited (suc number) bytes (e ∷ table) = e ∷ edited number bytes table

-- Why a kept file does not get other bytes: those of all opened files would be too many, or these are no text.
pub data EditFault : Type 0 where
  TooManyBytes : EditFault
  NoText : LexFault → EditFault

abbrev pub edited_as : Table → Result TextValue LexFault → Result Table EditFault
edited_as table (Ok text) = Ok table
edited_as table (Err e) = Err (NoText e)

-- the table behind the edit, or why it is not made
abbrev pub edited_of : ℕ → List ℕ → Table → Result Table EditFault
edited_of number bytes table =
    if nat_lt the_limits.all_bytes (bytes_opened (edited number bytes table)) then Err TooManyBytes else
    edited_as (edited number bytes table) (file_text number bytes)

-- the fault that a refusal names: none for want of memory alone
abbrev pub edit_fault_of : EditRefusal → Option EditFault
edit_fault_of refusal.TooManyBytes = Some TooManyBytes
edit_fault_of (refusal.Unread e) = option_map NoText (lex_fault_of e)

-- how many bytes the opened file of a number has, if it has one
abbrev pub size_at : Table → ℕ → Option ℕ
size_at table number = option_map length (option_and_then (λ (e : Entry). opened_bytes e.found) (slice_get table number))

-- how many bytes all opened files have, of which one gets so many in place of its own
abbrev pub bytes_with : ℕ → Option ℕ → ℕ → ℕ
bytes_with all None size = all
bytes_with all (Some old) size = all - old + size
