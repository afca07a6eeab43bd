-- The spellings of tokens, each by its number.
use Rattle.std.specs.Prelude.{ℕ, ◌≡◌, ◌⊎◌, List, [], ◌∷◌, length, Some, position, get_or, ◌==◌}
use Rattle.std.specs.Str.{bytes_eq}
use Rattle.cs_base.specs.Token.{Token}
use Rattle.c_types.specs.Declarations.{spelling_at, alike}

-- the number of the spelling of token k; a token that is not there has number 0, as an empty spelling has
abbrev pub number_at : List ℕ → ℕ → ℕ
number_at numbers k = get_or numbers k 0

-- the tokens with one number are those that are spelled alike
pub record AreNumbers (toks : List Token) (numbers : List ℕ) : Type 0 where
  pub same : (i j : ℕ) → alike toks i j ≡ (number_at numbers i == number_at numbers j)

-- the spelling of each token stands among the spellings, first at its number
pub record AreNumbered (toks : List Token) (numbers : List ℕ) (spellings : List (List ℕ)) : Type 0 where
  pub each : length numbers ≡ length toks
  pub told : (k : ℕ) → position (bytes_eq (spelling_at toks k)) spellings ≡ Some (number_at numbers k)

-- the spelling has the number, perhaps as a new one; what had a number has it still
pub record IsNumberOf (old new : List (List ℕ)) (spelling : List ℕ) (number : ℕ) : Type 0 where
  pub here : position (bytes_eq spelling) new ≡ Some number
  pub stay : (s : List ℕ) (n : ℕ) → position (bytes_eq s) old ≡ Some n → position (bytes_eq s) new ≡ Some n

-- for each byte 0, or the number that it has as a spelling of its own
abbrev pub AreSigns : List ℕ → List (List ℕ) → Type 0
AreSigns signs spellings = (b : ℕ) → (get_or signs b 0 ≡ 0) ⊎ (position (bytes_eq (b ∷ [])) spellings ≡ Some (get_or signs b 0))
