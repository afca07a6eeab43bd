-- A scope that begins with the names that were kept, some of them declared so far.
use Rattle.std.specs.Prelude.{ℕ, ◌∷◌, take, reverse}
use Rattle.c99_read.specs.State.{State}

-- the first k of the kept names stand in the new scope
abbrev pub again_at : State → ℕ → State
again_at s k = record s { names = record s.names { scopes = reverse (take k (reverse s.names.kept)) ∷ s.names.scopes } }
