-- Calls of a world in memory: each has a number, and those of a list fail.
use Rattle.std.specs.Prelude.{ℕ, Bool, ◌+◌, ◌-◌, ◌^◌, ◌==◌, List, min}
use Rattle.std.specs.List.{list_any}

-- one more, or the last value of a count
abbrev pub raised : ℕ → ℕ
raised count = min (count + 1) (2 ^ 64 - 1)

-- the call after so many is on the list
abbrev pub is_listed : List ℕ → ℕ → Bool
is_listed fails calls = list_any (λ call. call == raised calls) fails
