-- The report `class` (this project's): the members of the class that a place names, a line each.
use Rattle.std.specs.Prelude.{ℕ, ◌≡◌, Option, Some, None, List, ◌++◌, codes, decimal}
use Rattle.std.specs.List.{flat_map}
use Rattle.cs_base.specs.declared.positions.Part.{Part}
use Rattle.cs_base.specs.declared.positions.Place.{Place}
use Rattle.analysis.specs.Analysis.{AnalysisValue}
use Rattle.analysis.specs.Naming.{Names}
use Rattle.analysis.specs.Parts.{AreMembers}
use Rattle.analysis.specs.Places.{place_at}
use Rattle.analysis.specs.Spellings.{spelling_of}

-- PATH:LINE:COL
abbrev pub place_text : Place → List ℕ
place_text place = place.path ++ codes ":" ++ decimal place.line ++ codes ":" ++ decimal place.column

-- PATH:LINE:COL TEXT
abbrev pub part_line : AnalysisValue → Part → List ℕ
part_line a part = place_text (place_at a.table part.start) ++ codes " " ++ spelling_of a part ++ codes "\n"

-- the lines of parts, in order
unfoldable pub part_lines : AnalysisValue → List Part → List ℕ
part_lines a parts = flat_map (part_line a) parts

-- What is printed for a place: nothing where it names no part, and else the members of the class.
pub record PrintsClass (a : AnalysisValue) (path : List ℕ) (line column : ℕ) (text : List ℕ) : Type 0 where
  pub part : Part
  pub names : Names a path line column (Some part)
  pub members : List Part
  pub are_members : AreMembers a part members
  pub lines : text ≡ part_lines a members

abbrev pub IsClassReport : AnalysisValue → List ℕ → ℕ → ℕ → Option (List ℕ) → Type 0
IsClassReport a path line column None = Names a path line column None
IsClassReport a path line column (Some text) = PrintsClass a path line column text
