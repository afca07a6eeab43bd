-- What edits of a new order keep, by the class that they are of.
use Rattle.std.specs.Prelude.{ℕ, ◌≡◌, ◌⊎◌, Option, Some, List, []}
use Rattle.cs_base.specs.declared.positions.Part.{Part}
use Rattle.analysis.specs.Analysis.{AnalysisValue}
use Rattle.analysis.specs.GnuUnits.{gnu_places}
use Rattle.analysis.specs.Naming.{Names}
use Rattle.analysis.specs.Parts.{AreMembers}
use Rattle.template_meaning.specs.Compared.{KeepsOrder}

-- no unit is of GNU C, and a law tells it; or it was seen in a second analysis
abbrev pub IsKept : AnalysisValue → List Part → List ℕ → Type 0
IsKept a members order = (gnu_places a ≡ []) ⊎ KeepsOrder a members order

-- .. for the class of a part
abbrev pub IsClassKept : AnalysisValue → Part → List ℕ → Type 0
IsClassKept a part order = (members : List Part) → AreMembers a part members → IsKept a members order

-- .. for the part that a place names
abbrev pub IsPlaceKept : AnalysisValue → List ℕ → ℕ → ℕ → List ℕ → Type 0
IsPlaceKept a path line column order = (part : Part) → Names a path line column (Some part) → IsClassKept a part order
