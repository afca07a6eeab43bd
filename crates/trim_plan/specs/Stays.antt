-- A trim as it is told: the lines that tell why include lines stay.
use Rattle.std.specs.Prelude.{ℕ, ◌≡◌, List, [], ◌++◌, codes, map}
use Rattle.std.specs.List.{flat_map}
use Rattle.std.specs.Option.{option_map_or}
use Rattle.cs_base.specs.declared.positions.Pos.{Pos}
use Rattle.cs_base.specs.Edit.{Edit}
use Rattle.analysis.specs.Analysis.{AnalysisValue}
use Rattle.analysis.specs.ClassReport.{place_text}
use Rattle.analysis.specs.Places.{place_at}
use Rattle.trim_plan.specs.declared.plan.Trim.{Trim}
use Rattle.trim_plan.specs.Kept.{IsTrim}
use Rattle.trim_rules.specs.JudgedLines.{judged_in}
use Rattle.trim_rules.specs.Staying.{Why, computed, fragment, name, definition, pragma, Judged}

-- a reason in words
abbrev pub why_text : Why → List ℕ
why_text computed = codes "computed"
why_text fragment = codes "fragment"
why_text (name text) = codes "name " ++ text
why_text (definition text) = codes "definition " ++ text
why_text pragma = codes "pragma"

-- stays PATH:LINE:COL WHY
abbrev pub stays_line : AnalysisValue → Pos → Why → List ℕ
stays_line a p w = codes "stays " ++ (place_text (place_at a.table p) ++ (codes " " ++ (why_text w ++ codes "\n")))

-- the line of a judgement that something keeps
abbrev pub line_for : AnalysisValue → Judged → List ℕ
line_for a j = option_map_or (stays_line a j.at) j.why []

-- the lines of judgements, in order
unfoldable pub stays_lines : AnalysisValue → List Judged → List ℕ
stays_lines a judgements = flat_map (line_for a) judgements

-- .. of those that a trim has
abbrev pub told_lines : AnalysisValue → Trim → List ℕ
told_lines a t = stays_lines a (map judged_in t.judged.items)

-- A trim with what is told of it: its edits, and the lines of the include lines that stay.
pub record IsTold (a : AnalysisValue) (edits : List Edit) (stays : List ℕ) : Type 0 where
  pub judgements : List Judged
  pub trim : IsTrim a judgements edits
  pub lines : stays ≡ stays_lines a judgements
