-- The components that a path keeps, as slices in order.
use Rattle.std.specs.Prelude.{ℕ, List, [], ◌∷◌, ◌++◌, map, reverse}
use Rattle.std.specs.Borrow.{Bor}
use Rattle.cs_base.specs.Paths.{slash}

-- the components as texts
abbrev pub texts_of : List (Bor (List ℕ)) → List (List ℕ)
texts_of parts = map (λ (part : Bor (List ℕ)). part.now) parts

-- the components, the last one first
abbrev pub stack_of : List (Bor (List ℕ)) → List (List ℕ)
stack_of parts = reverse (texts_of parts)

-- the components, each behind a slash
abbrev pub slashed : List (List ℕ) → List ℕ
slashed [] = []
slashed (part ∷ parts) = (slash ∷ part) ++ slashed parts
