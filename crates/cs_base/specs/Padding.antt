-- One origin for each character of a token, or none.
use Rattle.std.specs.Prelude.{ℕ, List, Option, None, ◌++◌, ◌-◌, length, replicate}
use Rattle.cs_base.specs.declared.positions.Pos.{Pos}

-- one origin for each of n characters: those given, and then none
abbrev pub padded : ℕ → List (Option Pos) → List (Option Pos)
padded n origins = origins ++ replicate (n - length origins) None
