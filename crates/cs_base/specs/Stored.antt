-- Bytes that only grow, and the room for more that was taken beforehand.
use Rattle.std.specs.Prelude.{ℕ, List}

-- What contracts see of a `Store`.
pub record Stored : Type 0 where
  pub bytes : List ℕ
  pub room : ℕ

-- these bytes and this room
abbrev pub stored : List ℕ → ℕ → Stored
stored bytes room = record { bytes = bytes; room = room }
