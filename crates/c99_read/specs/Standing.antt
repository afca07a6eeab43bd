-- Where a reader stands between two external declarations (ISO/IEC 9899:1999, 6.9).
use Rattle.std.specs.Prelude.{◌+◌, ◌<◌, ◌≡◌, length}
use Rattle.c99_read.specs.declared.reader.Stand.{Stand}
use Rattle.c99_read.specs.State.{State}
use Rattle.c99_read.specs.Reading.{at_first}
use Rattle.c99_read.specs.Fronts.{unit_of}

-- the reader stands there, in its text
pub record IsStand (stand : Stand) (s : State) : Type 0 where
  pub state : s ≡ record (at_first s.toks) { at = stand.at; names = stand.names; built = stand.tree }
  pub seen : stand.at + 1 < length s.toks
  pub unit : stand.tree ≡ unit_of stand.tree.under
