-- Characters that stay behind a renaming, where they stood.
use Rattle.std.specs.Prelude.{ℕ, ◌≡◌, Option, List, [], ◌∷◌}
use Rattle.cs_base.specs.declared.positions.Pos.{Pos}
use Rattle.offences.specs.declared.moves.Moves.{Moves}
use Rattle.offences.specs.Moves.{spell_of, trace_of, spell_by, trace_by}

-- A character with this origin stays, whatever it is.
pub record IsStill (m : Moves) (origin : Option Pos) : Type 0 where
  pub spelled : (c : ℕ) → spell_of m origin c ≡ c ∷ []
  pub traced : (c : ℕ) → trace_of m origin c ≡ origin ∷ []

-- The characters of a text, with these origins, all stay.
pub record AreStill (m : Moves) (origins : List (Option Pos)) (text : List ℕ) : Type 0 where
  pub spelled : spell_by m origins text ≡ text
  pub traced : trace_by m origins text ≡ origins
