-- Which token of a list holds a character, where the tokens stand in one file, one behind the other.
use Rattle.std.specs.Prelude.{ℕ, ◌+◌, ◌≡◌, ◌<◌, ◌≤◌, nat_le, true, false, Bool, Option, Some, None, List, slice_get}
use Rattle.cs_base.specs.declared.positions.Pos.{Pos}
use Rattle.cs_base.specs.Token.{Token}
use Rattle.eclass_map.specs.Positions.{holds}
use Rattle.analysis.specs.FileTokens.{span_of}

-- The tokens stand in the file, one behind the other.
pub record AreInLine (file : ℕ) (toks : List Token) : Type 0 where
  pub placed : (k : ℕ) (t : Token) → slice_get toks k ≡ Some t → (span_of t).start.file ≡ file
  pub ordered : (j k : ℕ) (t u : Token) → j < k → slice_get toks j ≡ Some t → slice_get toks k ≡ Some u
      → (span_of t).start.at + (span_of t).len ≤ (span_of u).start.at

-- the token begins at the character or before it
abbrev pub begins_by : ℕ → Token → Bool
begins_by at t = nat_le (span_of t).start.at at

-- the number of the token that holds a character, or none where no token does
abbrev pub IsOver : List Token → Pos → Option ℕ → Type 0
IsOver toks p None = (k : ℕ) (t : Token) → slice_get toks k ≡ Some t → holds (span_of t) p ≡ false
IsOver toks p (Some k) = (t : Token) × (slice_get toks k ≡ Some t) × (holds (span_of t) p ≡ true)
