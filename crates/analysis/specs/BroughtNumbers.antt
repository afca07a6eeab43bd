-- The numbers that units bring, each place once (this project's, over ISO/IEC 9899:1999, 6.10.1 paragraph 4, 6.10.8).
use Rattle.std.specs.Prelude.{ℕ, ◌+◌, ◌≡◌, ◌<◌, ◌≤◌, ◌⊎◌, List, Some, slice_get}
use Rattle.std.specs.List.{flat_map}
use Rattle.cs_base.specs.declared.positions.Part.{Part}
use Rattle.cs_base.specs.Token.{Token}
use Rattle.analysis.specs.Analysis.{UnitAnalysis}
use Rattle.analysis.specs.FileTokens.{numbers_brought, span_of}

-- those that units bring, each for each time that it is brought
abbrev pub all_brought : List UnitAnalysis → List Token
all_brought units = flat_map (λ (u : UnitAnalysis). numbers_brought u.text) units

-- the token is one of these
abbrev pub IsAmong : List Token → Token → Type 0
IsAmong toks t = (k : ℕ) × (slice_get toks k ≡ Some t)

-- one of these stands at the place of the token, and is spelled so
pub record StandsFor (toks : List Token) (t : Token) : Type 0 where
  pub token : Token
  pub among : IsAmong toks token
  pub place : span_of token ≡ span_of t
  pub text : token.text ≡ t.text

-- Numbers stand in the pseudo file of lines, each behind the one before.
pub record AreInOrder (numbers : List Token) : Type 0 where
  pub lines : (k : ℕ) (t : Token) → slice_get numbers k ≡ Some t → (span_of t).start.file ≡ 0
  pub some : (k : ℕ) (t : Token) → slice_get numbers k ≡ Some t → 0 < (span_of t).len
  pub ordered : (j k : ℕ) (s t : Token) → j < k → slice_get numbers j ≡ Some s → slice_get numbers k ≡ Some t
      → (span_of s).start.at + (span_of s).len ≤ (span_of t).start.at

-- Of the numbers that are brought one for each place, in the order of their places.
pub record AreNumbers (brought numbers : List Token) : Type 0 where
  pub each : (t : Token) → IsAmong numbers t → IsAmong brought t
  pub all : (t : Token) → IsAmong brought t → StandsFor numbers t
  pub in_order : AreInOrder numbers

-- No number ends behind the character.
abbrev pub AllEndBy : ℕ → List Token → Type 0
AllEndBy at numbers = (k : ℕ) (t : Token) → slice_get numbers k ≡ Some t → (span_of t).start.at + (span_of t).len ≤ at

-- A number can stand at the place, behind these numbers.
pub record ComesBehind (numbers : List Token) (place : Part) : Type 0 where
  pub lines : place.start.file ≡ 0
  pub some : 0 < place.len
  pub behind : AllEndBy place.start.at numbers

-- One number more, unless one stands for it.
pub record AddsOnce (t : Token) (old new : List Token) : Type 0 where
  pub own : StandsFor new t
  pub kept : (s : Token) → IsAmong old s → IsAmong new s
  pub only : (s : Token) → IsAmong new s → IsAmong old s ⊎ (s ≡ t)
  pub in_order : AreInOrder new
