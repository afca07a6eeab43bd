-- Positions as runs of neighbours: the number of the first of each run, and where it stands.
use Rattle.std.specs.Prelude.{ℕ, ◌+◌, ◌-◌, ◌^◌, ◌≡◌, ◌≤◌, List, [], ◌∷◌, ◌++◌}
use Rattle.cs_base.specs.declared.positions.Pos.{Pos}
use Rattle.eclass_map.specs.declared.places.Run.{Run}
use Rattle.eclass_map.specs.ClassTable.{fresh_places, nowhere}

-- the positions, and how many runs there is room for
pub record PlaceList : Type 0 where
  pub list : List Pos
  pub room : ℕ

abbrev pub no_run : Run
no_run = record { first = 0; start = nowhere }

-- the number behind a run, where these runs follow and there are n characters
abbrev pub next_first : List Run → ℕ → ℕ
next_first [] n = n
next_first (r ∷ runs) n = r.first

-- the positions of the characters of the runs, where there are n characters
abbrev pub places_of : List Run → ℕ → List Pos
places_of [] n = []
places_of (r ∷ runs) n = fresh_places r.start (next_first runs n - r.first) ++ places_of runs n

-- the runs are those of the characters from one number to before n, in order
abbrev pub AreRuns : ℕ → List Run → ℕ → Type 0
AreRuns from [] n = from ≡ n
AreRuns from (r ∷ runs) n =
    (r.first ≡ from) × (from ≤ next_first runs n) × (r.start.at + (next_first runs n - from) ≤ 2 ^ 32)
    × AreRuns (next_first runs n) runs n
