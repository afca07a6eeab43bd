-- The first names of each spelling, as contracts see them.
use Rattle.std.specs.Prelude.{◌≡◌, ℕ, is_some, if◌then◌else◌, List, [], ◌∷◌, ◌++◌, map}
use Rattle.cs_base.specs.Token.{Token}
use Rattle.unit_steps.specs.Names.{spelled_in}

-- the names behind one that is processed: it comes last, unless there is one of its spelling
abbrev pub names_with : Token → List Token → List Token
names_with name names = if is_some (spelled_in names name.text) then names else names ++ name ∷ []

-- the names under their spellings
abbrev pub names_of : List (List ℕ × Token) → List Token
names_of rows = map (λ row. row.1) rows

-- each stands under its spelling
abbrev pub AreSpelled : List (List ℕ × Token) → Type 0
AreSpelled [] = Unit {0}
AreSpelled (row ∷ rows) = (row.0 ≡ row.1.text) × AreSpelled rows

-- entries of a map, their keys spelled
abbrev pub rows_of : {K : Type 0} → (K → List ℕ) → List (K × Token) → List (List ℕ × Token)
rows_of spelling es = map (λ e. (spelling e.0, e.1)) es
