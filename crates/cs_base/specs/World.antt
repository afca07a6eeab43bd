-- Files in memory: what contracts see of a `MemFiles`, and what each call makes of it.
use Rattle.std.specs.Prelude.{◌≡◌, ℕ, Bool, true, false, ◌||◌, ◌-◌, List, [], Option, None, Some, nat_lt, is_none, is_some, length, if◌then◌else◌}
use Rattle.cs_base.specs.declared.outside.Got.{Got}
use Rattle.cs_base.specs.declared.outside.Got.TheVariants as got
use Rattle.cs_base.specs.declared.outside.Put.{Put}
use Rattle.cs_base.specs.declared.outside.Put.TheVariants as put
use Rattle.cs_base.specs.Outside.{FileMap, FilesTold, files_told, bytes_at, with_file}
use Rattle.cs_base.specs.Calls.{raised, is_listed}

-- The files in the order in which they were added, the numbers of the calls that are to fail, the bytes
-- that further puts may still take, how many calls were made, how many of them failed, and the path of
-- the last that did, where it is told.
pub record World : Type 0 where
  pub files : FileMap
  pub fails : List ℕ
  pub room : ℕ
  pub calls : ℕ
  pub failed_reads : ℕ
  pub failed_puts : ℕ
  pub last_failed : Option (List ℕ)

-- a world of these parts
abbrev pub world : FileMap → List ℕ → ℕ → ℕ → ℕ → ℕ → Option (List ℕ) → World
world files fails room calls failed_reads failed_puts last_failed = record {
  files = files;
  fails = fails;
  room = room;
  calls = calls;
  failed_reads = failed_reads;
  failed_puts = failed_puts;
  last_failed = last_failed;
}

-- what such files tell
abbrev pub told_of : World → FilesTold
told_of w = files_told (Some w.files) w.failed_reads w.failed_puts w.last_failed

-- no file, no failing call, no room, and no call made yet
abbrev pub empty_world : World
empty_world = world [] [] 0 0 0 0 None

-- the next call fails, if it is a read: its number is on the list
abbrev pub read_fails : World → Bool
read_fails w = is_listed w.fails w.calls

-- The next call fails, if it is this put: its number is on the list, the bytes are more than the room,
-- or the path is not held.
abbrev pub put_fails : List ℕ → List ℕ → World → Bool
put_fails path bytes w =
    is_listed w.fails w.calls || nat_lt w.room (length bytes) || is_none (bytes_at path w.files)

-- A read fails exactly where it has to, but may want memory instead; else it gives what the path holds.
abbrev pub Reads : List ℕ → World → Got → Type 0
Reads path w (got.Bytes v) = (read_fails w ≡ false) × (bytes_at path w.files ≡ Some v.items)
Reads path w got.Absent = (read_fails w ≡ false) × (bytes_at path w.files ≡ None)
Reads path w got.Failed = read_fails w ≡ true
Reads path w got.Memory = Unit {0}

-- the world after a read: the call is counted, and so is a failure, whose path is kept
abbrev pub after_read : List ℕ → Bool → World → World
after_read path failed w =
    world w.files w.fails w.room (raised w.calls)
    (if failed then raised w.failed_reads else w.failed_reads) w.failed_puts
    (if failed then Some path else w.last_failed)

-- the world after a put that failed: its path is told only where it is held
abbrev pub after_failed_put : List ℕ → World → World
after_failed_put path w =
    world w.files w.fails w.room (raised w.calls) w.failed_reads (raised w.failed_puts)
    (if is_some (bytes_at path w.files) then Some path else None)

-- the world after a put that is done: the path holds the bytes, which took their length of the room
abbrev pub after_done_put : List ℕ → List ℕ → World → World
after_done_put path bytes w =
    world (with_file path bytes w.files) w.fails (w.room - length bytes) (raised w.calls)
    w.failed_reads w.failed_puts w.last_failed

-- the world after a put that answered so
abbrev pub after_put : List ℕ → List ℕ → World → Put → World
after_put path bytes w put.Done = after_done_put path bytes w
after_put path bytes w put.Failed = after_failed_put path w
