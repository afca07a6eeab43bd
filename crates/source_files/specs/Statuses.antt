-- How it stands with the file of a path, as contracts see it.
use Rattle.std.specs.Prelude.{◌≡◌, ℕ, Bool, true, false, List, Option, Some, None, Ok, length}
use Rattle.lexer.specs.FileText.{TextValue, file_text}
use Rattle.source_files.specs.declared.status.Status.{Status}
use Rattle.source_files.specs.declared.status.Status.TheVariants as status
use Rattle.source_files.specs.Files.{Found, Lines, Absent, Unopened, Opened, Made, Table, number_of, found_at}

-- no file of this kind can be opened
abbrev pub is_missing : Option Found → Bool
is_missing None = true
is_missing (Some Lines) = true
is_missing (Some Absent) = true
is_missing (Some _) = false

-- the bytes of a file that is kept
abbrev pub IsKeptWith : List ℕ → Option Found → Type 0
IsKeptWith bytes (Some (Opened held)) = held ≡ bytes
IsKeptWith bytes (Some (Made held)) = held ≡ bytes
IsKeptWith bytes _ = ⊥

-- a path has this number, and a file of so many bytes that was not opened
abbrev pub IsUnread : Table → List ℕ → ℕ → ℕ → Type 0
IsUnread table path number size =
    (number_of path table ≡ number) × ((bytes : List ℕ) × (found_at path table ≡ Some (Unopened bytes)) × (length bytes ≡ size))

-- what a status says of a path
abbrev pub IsStatus : Table → List ℕ → Status → Type 0
IsStatus table path status.Missing = is_missing (found_at path table) ≡ true
IsStatus table path (status.Kept number) =
    (number_of path table ≡ number) × ((bytes : List ℕ) × (text : TextValue) × IsKeptWith bytes (found_at path table) × (file_text number bytes ≡ Ok text))
IsStatus table path (status.Unread number size) = IsUnread table path number size
