-- A sink in memory: what contracts see of a `MemSink`, and what each call makes of it.
use Rattle.std.specs.Prelude.{ℕ, Bool, ◌||◌, ◌-◌, List, [], ◌++◌, nat_lt, length}
use Rattle.cs_base.specs.declared.outside.Wrote.{Wrote}
use Rattle.cs_base.specs.declared.outside.Wrote.TheVariants as wrote
use Rattle.cs_base.specs.Calls.{raised, is_listed}

-- The bytes written, the numbers of the writes that are to fail, the bytes that further writes may still
-- take, how many writes were made, and how many of them failed.
pub record Written : Type 0 where
  pub bytes : List ℕ
  pub fails : List ℕ
  pub room : ℕ
  pub calls : ℕ
  pub failed_writes : ℕ

-- a sink of these parts
abbrev pub written : List ℕ → List ℕ → ℕ → ℕ → ℕ → Written
written bytes fails room calls failed_writes = record {
  bytes = bytes;
  fails = fails;
  room = room;
  calls = calls;
  failed_writes = failed_writes;
}

-- no byte, no failing write, no room, and no write made yet
abbrev pub nothing_written : Written
nothing_written = written [] [] 0 0 0

-- the next write fails, if it is of this piece: its number is on the list, or the piece is more than the room
abbrev pub write_fails : List ℕ → Written → Bool
write_fails piece s = is_listed s.fails s.calls || nat_lt s.room (length piece)

-- the sink after a write that failed, which adds nothing
abbrev pub after_failed_write : Written → Written
after_failed_write s = written s.bytes s.fails s.room (raised s.calls) (raised s.failed_writes)

-- the sink after a write that is done: the piece is added, and took its length of the room
abbrev pub after_done_write : List ℕ → Written → Written
after_done_write piece s =
    written (s.bytes ++ piece) s.fails (s.room - length piece) (raised s.calls) s.failed_writes

-- the sink after a write that answered so
abbrev pub after_write : List ℕ → Written → Wrote → Written
after_write piece s wrote.Done = after_done_write piece s
after_write piece s wrote.Failed = after_failed_write s
