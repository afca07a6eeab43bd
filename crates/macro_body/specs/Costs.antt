-- What is left of the work behind a cost.
use Rattle.std.specs.Prelude.{ℕ, ◌-◌, nat_lt, if◌then◌else◌, List, Option, Some, None}
use Rattle.macro_body.specs.Hides.{Hidden}
use Rattle.macro_body.specs.Substitution.{Arguments}

-- the work that is left, or none where the cost is more than there is
abbrev pub left_of : ℕ → ℕ → Option ℕ
left_of work cost = if nat_lt work cost then None else Some (work - cost)

-- the arguments as they stand, and expanded
abbrev pub arguments : List (List Hidden) → List (List Hidden) → Arguments
arguments raw full = record { raw = raw; full = full }
