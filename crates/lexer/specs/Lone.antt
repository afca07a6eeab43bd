-- Quotes that are known to stay open: so that no line is searched for a closing quote more than twice.
use Rattle.std.specs.Prelude.{◌≡◌, ℕ, ◌-◌, ◌<◌, ◌==◌, nat_lt, if◌then◌else◌, Bool, false, List, ◌∷◌, None, drop}
use Rattle.lexer.specs.Characters.{single_quote, double_quote}
use Rattle.lexer.specs.Front.{closing}
use Rattle.lexer.specs.declared.lone.Lone.{Lone}

-- none of these quotes among so many first characters of a text closes
abbrev pub StaysOpen : ℕ → ℕ → List ℕ → Type 0
StaysOpen quote count text = (k : ℕ) (rest : List ℕ) → k < count → drop k text ≡ quote ∷ rest → closing quote false rest ≡ None

-- what is known of both quotes of a text
pub record IsLone (lone : Lone) (text : List ℕ) : Type 0 where
  pub single : StaysOpen single_quote lone.single text
  pub double : StaysOpen double_quote lone.double text

-- for this quote
abbrev pub count_for : Lone → ℕ → ℕ
count_for lone quote = if quote == single_quote then lone.single else lone.double

-- the quote that is character k is known to stay open
abbrev pub knows_of : Lone → ℕ → ℕ → Bool
knows_of lone quote k = nat_lt k (count_for lone quote)

-- what is known behind n characters
abbrev pub lone_behind : Lone → ℕ → Lone
lone_behind lone n = record { single = lone.single - n; double = lone.double - n }

-- what is known where no such quote closes among so many characters
abbrev pub lone_with : Lone → ℕ → ℕ → Lone
lone_with lone quote count =
    if quote == single_quote then record { single = count; double = lone.double } else record { single = lone.single; double = count }
