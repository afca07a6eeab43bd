-- Reports on an analysed workspace (this project's).
use Rattle.std.specs.Prelude.{ℕ, ◌≡◌, Option, Some, None, List, ◌++◌, codes}
use Rattle.std.specs.List.{flat_map}
use Rattle.cs_base.specs.declared.positions.Part.{Part}
use Rattle.cs_base.specs.declared.positions.Pos.{Pos}
use Rattle.analysis.specs.Analysis.{AnalysisValue}
use Rattle.analysis.specs.ClassReport.{IsClassReport, part_lines, place_text}
use Rattle.analysis.specs.Places.{place_at}
use Rattle.unused_names.specs.Unneeded.{AreUnneeded}
use Rattle.unused_names.specs.Unused.{AreUnused}
use Rattle.query_report.specs.declared.queries.Query.{Query}
use Rattle.query_report.specs.declared.queries.Query.TheVariants.{Class, Unused, Includes}

-- ---- `unused`

-- PATH:LINE:COL NAME for the first member of each class that is declared and not used
pub record PrintsUnused (a : AnalysisValue) (text : List ℕ) : Type 0 where
  pub parts : List Part
  pub are_unused : AreUnused a parts
  pub lines : text ≡ part_lines a parts

-- there is always such a text
abbrev pub IsUnusedReport : AnalysisValue → Option (List ℕ) → Type 0
IsUnusedReport a None = ⊥
IsUnusedReport a (Some text) = PrintsUnused a text

-- ---- `includes`

-- PATH:LINE:COL
abbrev pub line_of : AnalysisValue → Pos → List ℕ
line_of a p = place_text (place_at a.table p) ++ codes "\n"

-- the lines of positions, in order
unfoldable pub lines_of : AnalysisValue → List Pos → List ℕ
lines_of a places = flat_map (line_of a) places

-- PATH:LINE:COL for the `#` of each include line that no inclusion needs
pub record PrintsUnneeded (a : AnalysisValue) (text : List ℕ) : Type 0 where
  pub places : List Pos
  pub are_unneeded : AreUnneeded a places
  pub lines : text ≡ lines_of a places

-- there is always such a text
abbrev pub IsIncludesReport : AnalysisValue → Option (List ℕ) → Type 0
IsIncludesReport a None = ⊥
IsIncludesReport a (Some text) = PrintsUnneeded a text

-- ---- all reports

-- What is told where this is asked: a text, or that the place names nothing.
abbrev pub IsReport : AnalysisValue → Query → Option (List ℕ) → Type 0
IsReport a (Class place) told = IsClassReport a place.path place.line place.column told
IsReport a Unused told = IsUnusedReport a told
IsReport a Includes told = IsIncludesReport a told
