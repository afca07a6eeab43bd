-- The outside: files by their paths, what a call does to them, and counts of what failed.
use Rattle.std.specs.Prelude.{◌≡◌, ◌⊎◌, ◌≤◌, ◌+◌, ◌-◌, ◌^◌, ℕ, Bool, true, false, List, [], ◌∷◌, ◌++◌, Option, None, Some, IfSome, IsTrue, min, if◌then◌else◌}
use Rattle.std.specs.Option.{option_map}
use Rattle.std.specs.Str.{bytes_eq}
use Rattle.cs_base.specs.declared.outside.Got.{Got}
use Rattle.cs_base.specs.declared.outside.Got.TheVariants as got
use Rattle.cs_base.specs.declared.outside.Put.{Put}
use Rattle.cs_base.specs.declared.outside.Put.TheVariants as put
use Rattle.cs_base.specs.declared.outside.Wrote.{Wrote}
use Rattle.cs_base.specs.declared.outside.Wrote.TheVariants as wrote

-- files as a list of (path, bytes): the first pair of a path is the file
abbrev pub FileMap : Type 0
FileMap = List (List ℕ × List ℕ)

-- the bytes of a path, or none where the path is not there
abbrev pub bytes_at : List ℕ → FileMap → Option (List ℕ)
bytes_at path [] = None
bytes_at path (file ∷ files) =
    if bytes_eq file.0 path then Some file.1 else bytes_at path files

-- the files once a path holds these bytes
abbrev pub with_file : List ℕ → List ℕ → FileMap → FileMap
with_file path bytes [] = (path, bytes) ∷ []
with_file path bytes (file ∷ files) =
    if bytes_eq file.0 path then (file.0, bytes) ∷ files else file ∷ with_file path bytes files

-- a count rose, or stands at its last value
abbrev pub Rose : ℕ → ℕ → Type 0
Rose before now = min (before + 1) (2 ^ 64 - 1) ≤ now

-- What files tell at one moment: what they hold, where that is told; how many reads and how many puts failed; and
-- the path of the last call that failed, where it is told.
pub record FilesTold : Type 0 where
  pub held : Option FileMap
  pub reads : ℕ
  pub puts : ℕ
  pub last : Option (List ℕ)

-- files that tell this
abbrev pub files_told : Option FileMap → ℕ → ℕ → Option (List ℕ) → FilesTold
files_told held reads puts last = record { held = held; reads = reads; puts = puts; last = last }

-- What an answer says of the reads behind it: none failed; the last one failed, which was of this path; or one may
-- have failed.
pub data ReadEnd : Type 0 where
  NoneFailed : ReadEnd
  FailedAt : List ℕ → ReadEnd
  MayHaveFailed : ReadEnd

-- so it is with what files tell: all of it stays where none failed
abbrev pub TellsReads : FilesTold → FilesTold → ReadEnd → Type 0
TellsReads old new NoneFailed = new ≡ old
TellsReads old new (FailedAt path) = Rose old.reads new.reads × IfSome new.last (λ p. p ≡ path)
TellsReads old new MayHaveFailed = old.reads ≤ new.reads

-- Between two moments files were read, and no more: they hold what they held, and no put failed.
pub record ReadsOnly (old new : FilesTold) (ended : ReadEnd) : Type 0 where
  pub held : new.held ≡ old.held
  pub grows : old.reads ≤ new.reads
  pub apart : new.puts ≡ old.puts
  pub told : TellsReads old new ended

-- what one read of a path says; one that wants memory did not fail
abbrev pub read_end : List ℕ → Got → ReadEnd
read_end path (got.Bytes v) = NoneFailed
read_end path got.Absent = NoneFailed
read_end path got.Failed = FailedAt path
read_end path got.Memory = NoneFailed

-- a read that failed
abbrev pub read_failed : Got → Bool
read_failed (got.Bytes v) = false
read_failed got.Absent = false
read_failed got.Failed = true
read_failed got.Memory = false

-- where the read neither failed nor wanted memory, it gave what the path holds, or `Absent` where it holds nothing
abbrev pub GivesHeld : List ℕ → FileMap → Got → Type 0
GivesHeld path files (got.Bytes v) = bytes_at path files ≡ Some v.items
GivesHeld path files got.Absent = bytes_at path files ≡ None
GivesHeld path files got.Failed = Unit {0}
GivesHeld path files got.Memory = Unit {0}

-- a put that failed
abbrev pub put_failed : Put → Bool
put_failed put.Done = false
put_failed put.Failed = true

-- What one put of a path does to the counts and to the last failed path: the count of failed puts rises exactly
-- where it fails, and that of failed reads stays.
pub record PutsOnly (path : List ℕ) (failed : Bool) (old new : FilesTold) : Type 0 where
  pub grows : old.puts ≤ new.puts
  pub rises : IsTrue failed → Rose old.puts new.puts
  pub told : IsTrue failed → IfSome new.last (λ p. p ≡ path)
  pub stays : failed ≡ false → (new.puts ≡ old.puts) × (new.last ≡ old.last)
  pub apart : new.reads ≡ old.reads

-- a put that is done leaves the new bytes, and one that failed the old or the new
abbrev pub Puts : List ℕ → List ℕ → Option FileMap → Option FileMap → Put → Type 0
Puts path bytes before now put.Done = now ≡ option_map (with_file path bytes) before
Puts path bytes before now put.Failed =
    (now ≡ before) ⊎ (now ≡ option_map (with_file path bytes) before)

-- a write that failed
abbrev pub write_failed : Wrote → Bool
write_failed wrote.Done = false
write_failed wrote.Failed = true

-- these bytes begin that piece
abbrev pub IsFront : List ℕ → List ℕ → Type 0
IsFront front piece = (rest : List ℕ) × (front ++ rest ≡ piece)

-- a write that is done adds the piece, and one that failed a front of it
abbrev pub Writes : List ℕ → Option (List ℕ) → Option (List ℕ) → Wrote → Type 0
Writes piece before now wrote.Done = now ≡ option_map (λ bytes. bytes ++ piece) before
Writes piece before now wrote.Failed =
    (front : List ℕ) × IsFront front piece × (now ≡ option_map (λ bytes. bytes ++ front) before)

-- What one write does to the count of the writes that failed.
pub record Faults (failed : Bool) (count count' : ℕ) : Type 0 where
  pub grows : count ≤ count'
  pub rises : IsTrue failed → Rose count count'
  pub stays : failed ≡ false → count' ≡ count
