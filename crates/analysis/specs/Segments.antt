-- Lists that lie one behind another in one list.
use Rattle.std.specs.Prelude.{ℕ, ◌≡◌, ◌≤◌, List, [], ◌∷◌, slice_range}

-- the lists that end at these places, the first of which begins at a place
abbrev pub segments : {X : Type 0} → ℕ → List ℕ → List X → List (List X)
segments from [] xs = []
segments from (end ∷ ends) xs = slice_range xs from end ∷ segments end ends xs

-- The places stand in order, none before the first one, and the last is the end of a list of n.
abbrev pub AreEnds : ℕ → List ℕ → ℕ → Type 0
AreEnds from [] n = from ≡ n
AreEnds from (end ∷ ends) n = (from ≤ end) × AreEnds end ends n
