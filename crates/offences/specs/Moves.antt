-- Where the characters of files stand behind a renaming, and what stands for them, by tables that code reads; and the renaming
-- that the tables make.
use Rattle.std.specs.Prelude.{ℕ, ◌+◌, ◌≡◌, ◌<◌, ◌≤◌, ◌⊎◌, ◌==◌, if◌then◌else◌, nat_lt, min, Bool, true, false, filter, Option, Some, None, List, [], ◌∷◌, ◌++◌, length, get_or}
use Rattle.std.specs.Option.{option_map_or}
use Rattle.cs_base.specs.declared.positions.Part.{Part}
use Rattle.cs_base.specs.declared.positions.Pos.{Pos}
use Rattle.analysis.specs.Below.lexer.Logical.{logical_of, spelling}
use Rattle.analysis.specs.Below.lexer.Places.{pos, origins_from}
use Rattle.analysis.specs.Below.lexer.Respelling.{edited}
use Rattle.part_respell.specs.Respelled.{member_over, moved_to}
use Rattle.analysis.specs.Below.source_files.Files.{Table}
use Rattle.analysis.specs.Below.source_files.KeptFiles.{KeptValue, kept_at}
use Rattle.analysis.specs.Changed.{Editing, Renaming}
use Rattle.offences.specs.Class.{IsFree}
use Rattle.offences.specs.declared.puts.Put.{Put}
use Rattle.offences.specs.declared.puts.Put.TheVariants.{Character, Name, Nothing}
use Rattle.offences.specs.declared.moves.FileMove.{FileMove}
use Rattle.offences.specs.declared.moves.Moves.{Moves}

-- ---- the renaming that the tables make

-- what stands for a character: itself, the name, or nothing
abbrev pub text_for : List ℕ → Put → ℕ → List ℕ
text_for name Character c = c ∷ []
text_for name Name c = name
text_for name Nothing c = []

-- how many characters that are
abbrev pub size_of : List ℕ → Put → ℕ
size_of name Character = 1
size_of name Name = length name
size_of name Nothing = 0

-- the tables of a file, if it has some
abbrev pub file_at : Moves → ℕ → Option FileMove
file_at m n = get_or m.files.items n None

-- what stands for a character of a member
abbrev pub put_of : Pos → Part → Put
put_of p m = if m.start.at == p.at then Name else Nothing

abbrev pub put_at : List Part → Pos → Put
put_at members p = option_map_or (put_of p) (member_over members p) Character

-- what stands for a character by the tables of its file, and by the other members where these tell nothing of it
abbrev pub put_in : List Part → Option FileMove → Pos → Put
put_in others None p = put_at others p
put_in others (Some f) p = get_or f.puts.items p.at (put_at others p)

abbrev pub put_told : Moves → Pos → Put
put_told m p = put_in m.others.items (file_at m p.file) p

-- a place past the last character moves to where the text ends, and where no member stands in the file no other one moves
abbrev pub place_in : Option FileMove → ℕ → ℕ
place_in None at = at
place_in (Some f) at = if f.still then min at f.end else get_or f.places.items at f.end

abbrev pub put_by : Moves → Pos → ℕ → List ℕ
put_by m p c = text_for m.name.items (put_told m p) c

abbrev pub move_by : Moves → Pos → Pos
move_by m p = pos p.file (place_in (file_at m p.file) p.at)

-- the same of what may have no origin
abbrev pub spell_of : Moves → Option Pos → ℕ → List ℕ
spell_of m None c = c ∷ []
spell_of m (Some p) c = put_by m p c

abbrev pub trace_of : Moves → Option Pos → ℕ → List (Option Pos)
trace_of m None c = None ∷ []
trace_of m (Some p) c = origins_from p.file (move_by m p).at (length (put_by m p c))

unfoldable pub spell_by : Moves → List (Option Pos) → List ℕ → List ℕ
spell_by m [] text = text
spell_by m (origin ∷ origins) [] = []
spell_by m (origin ∷ origins) (c ∷ text) = spell_of m origin c ++ spell_by m origins text

unfoldable pub trace_by : Moves → List (Option Pos) → List ℕ → List (Option Pos)
trace_by m [] text = []
trace_by m (origin ∷ origins) [] = origin ∷ origins
trace_by m (origin ∷ origins) (c ∷ text) = trace_of m origin c ++ trace_by m origins text

abbrev pub renaming_by : Moves → Renaming
renaming_by m = record { spell = spell_by m; trace = trace_by m; move = move_by m }

-- the new bytes of a file
unfoldable pub editing_by : Moves → Editing
editing_by m number bytes = edited (λ at c. put_by m (pos number at) c) bytes

-- ---- the tables of the members of a class

-- each entry tells what stands for its character
abbrev pub ArePuts : List Part → ℕ → List Put → Type 0
ArePuts members file puts = (at : ℕ) → at < length puts → get_or puts at Character ≡ put_at members (pos file at)

-- The first n characters of a member are put in at one place, and all else stays there.
pub record IsMarkedAt (m : Part) (n : ℕ) (old new : List Put) (at : ℕ) : Type 0 where
  pub inside : m.start.at ≤ at → at < m.start.at + n → get_or new at Character ≡ put_of (pos m.start.file at) m
  pub outside : (at < m.start.at) ⊎ (m.start.at + n ≤ at) → get_or new at Character ≡ get_or old at Character

abbrev pub MarksTo : Part → ℕ → List Put → List Put → Type 0
MarksTo m n old new = (at : ℕ) → at < length new → IsMarkedAt m n old new at

-- A member is in front of those that are in.
abbrev pub AddsMember : ℕ → Part → List Put → List Put → Type 0
AddsMember file m old new = (members : List Part) → ArePuts members file old → ArePuts (m ∷ members) file new

-- the text of a file
abbrev pub text_in : List ℕ → List ℕ
text_in bytes = spelling (logical_of bytes)

-- Where the first n characters of a file move, and where the next one does.
pub record ArePlaces (members : List Part) (name : List ℕ) (number : ℕ) (bytes : List ℕ) (n : ℕ) (places : List ℕ) (end : ℕ) : Type 0 where
  pub each : (at d : ℕ) → at < n → get_or places at d ≡ moved_to members name number bytes at
  pub count : length places ≡ n
  pub within : n ≤ length (text_in bytes)
  pub next : end ≡ moved_to members name number bytes n

-- The tables of the file of this number, which has these bytes.
pub record AreOfFile (members : List Part) (name : List ℕ) (number : ℕ) (bytes : List ℕ) (f : FileMove) : Type 0 where
  pub puts : ArePuts members number f.puts.items
  pub all : length f.puts.items ≡ length (text_in bytes)
  pub places : ArePlaces members name number bytes (length (text_in bytes)) f.places.items f.end

-- The tables of a file with these bytes each of whose characters stays: its end alone.
pub record IsStillTo (bytes : List ℕ) (f : FileMove) : Type 0 where
  pub still : f.still ≡ true
  pub puts : f.puts.items ≡ []
  pub end : f.end ≡ length (text_in bytes)

-- They tell the end alone where no member stands in the file, and all where one does.
abbrev pub AreTables : List Part → List ℕ → ℕ → List ℕ → FileMove → Type 0
AreTables members name number bytes f =
    ((f.still ≡ false) × AreOfFile members name number bytes f) ⊎ (IsStillTo bytes f × IsFree members number)

-- a kept file has tables, and no other one
abbrev pub IsOf : List Part → List ℕ → ℕ → Option KeptValue → Option FileMove → Type 0
IsOf members name number None None = Unit {0}
IsOf members name number (Some k) (Some f) = AreTables members name number k.bytes f
IsOf members name number None (Some f) = ⊥
IsOf members name number (Some k) None = ⊥

-- so it is with the first n numbers
abbrev pub AreMovesTo : Table → List Part → List ℕ → ℕ → List (Option FileMove) → Type 0
AreMovesTo table members name n files = (length files ≡ n) × ((k : ℕ) → k < n → IsOf members name k (kept_at table k) (get_or files k None))

-- how many characters the tables of a file tell
abbrev pub table_size : List (Option FileMove) → ℕ → ℕ
table_size files n = option_map_or (λ (f : FileMove). length f.puts.items) (get_or files n None) 0

-- a member that reaches past the tables of its file
abbrev pub is_outside : List (Option FileMove) → Part → Bool
is_outside files m = nat_lt (table_size files m.start.file) (m.start.at + m.len)

-- so it is with each number
pub record AreMoves (table : Table) (members : List Part) (name : List ℕ) (m : Moves) : Type 0 where
  pub each : AreMovesTo table members name (length table) m.files.items
  pub spelled : m.name.items ≡ name
  pub others : m.others.items ≡ filter (is_outside m.files.items) members
