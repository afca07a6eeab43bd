-- What a number stands for in a cache, as contracts see it.
use Rattle.std.specs.Prelude.{◌≡◌, ℕ, Bool, true, false, List, [], Option, Some, None}
use Rattle.source_files.specs.declared.slot.Slot.{Slot}
use Rattle.source_files.specs.declared.slot.Slot.TheVariants as slot
use Rattle.source_files.specs.KeptFiles.{KeptValue, kept}
use Rattle.source_files.specs.Files.{Found, Absent, Unopened, Opened, Made}

abbrev pub found_of : Slot → Found
found_of slot.Absent = Absent
found_of (slot.Unopened bytes) = Unopened bytes.items
found_of (slot.Opened file) = Opened file.bytes
found_of (slot.Made file) = Made file.bytes

-- what is read of a path: that it is absent, or its bytes
abbrev pub IsRead : Found → Type 0
IsRead Absent = Unit {0}
IsRead (Unopened bytes) = Unit {0}
IsRead _ = ⊥

-- a file that is there and was not opened
abbrev pub is_unopened : Slot → Bool
is_unopened (slot.Unopened bytes) = true
is_unopened _ = false

-- its bytes
abbrev pub bytes_in : Slot → List ℕ
bytes_in (slot.Unopened bytes) = bytes.items
bytes_in _ = []

-- what it stands for once it is opened
abbrev pub opened_slot : ℕ → List ℕ → List ℕ → Slot
opened_slot number path bytes = slot.Opened (kept number path bytes)

-- a file that is kept, with these bytes
abbrev pub slot_with : List ℕ → Slot → Slot
slot_with bytes (slot.Opened file) = slot.Opened (kept file.number file.path bytes)
slot_with bytes (slot.Made file) = slot.Made (kept file.number file.path bytes)
slot_with bytes other = other

-- the number of a file that is kept
abbrev pub number_in : Slot → ℕ
number_in (slot.Opened file) = file.number
number_in (slot.Made file) = file.number
number_in _ = 0

-- the file that is kept
abbrev pub kept_of : Slot → Option KeptValue
kept_of slot.Absent = None
kept_of (slot.Unopened bytes) = None
kept_of (slot.Opened file) = Some file
kept_of (slot.Made file) = Some file

-- a file that is kept has this number and this path
abbrev pub IsNumbered : ℕ → List ℕ → Slot → Type 0
IsNumbered number path slot.Absent = Unit {0}
IsNumbered number path (slot.Unopened bytes) = Unit {0}
IsNumbered number path (slot.Opened file) = (file.number ≡ number) × (file.path ≡ path)
IsNumbered number path (slot.Made file) = (file.number ≡ number) × (file.path ≡ path)
