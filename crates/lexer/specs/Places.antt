-- Positions of characters and origins of tokens.
use Rattle.std.specs.Prelude.{ℕ, zero, suc, ◌+◌, List, [], ◌∷◌, Option, Some}
use Rattle.cs_base.specs.declared.positions.Pos.{Pos}

-- character `at` of a file
abbrev pub pos : ℕ → ℕ → Pos
pos file at = record { file = file; at = at }

-- the origins of n characters of a file, from `at` on
abbrev pub origins_from : ℕ → ℕ → ℕ → List (Option Pos)
origins_from file at zero = []
origins_from file at (suc n) = Some (pos file at) ∷ origins_from file (at + 1) n
