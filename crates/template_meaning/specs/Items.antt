-- The items of a list in a file (ISO/IEC 9899:1999, 6.5.2.2, 6.7.5.3 and 6.10.3): each has tokens, no item begins with `#`, and none
-- ends in `/` or `(`.
use Rattle.std.specs.Prelude.{ℕ, ◌<◌, ◌≡◌, Some, List, length, map}
use Rattle.cs_base.specs.declared.positions.Part.{Part}
use Rattle.source_files.specs.Files.{Source, SourceFile}
use Rattle.source_files.specs.Sources.{source_at}
use Rattle.unit_laws.specs.UnitLinks.{IsIn}
use Rattle.ws_file.specs.Workspace.{WorkspaceValue}
use Rattle.analysis.specs.Analysis.{UnitAnalysis, AnalysisValue}
use Rattle.arranged_text_laws.specs.Lists.{IsItem}
use Rattle.reordered_text_laws.specs.Marks.{Each, spans_by}
use Rattle.template_rules.specs.FileLists.{begun_before}
use Rattle.template_meaning.specs.Accepted.{IsAccepted}
use Rattle.template_meaning.specs.Places.{ListInFile}
use Rattle.template_meaning.specs.Units.{HavePrototypes}

-- The law: so it is with each list that stands in a file, where no offence stands against an order that is not empty.
abbrev pub ItemsStand : Type 0
ItemsStand = (source : Source) (ws : WorkspaceValue) (a : AnalysisValue) (members : List Part) (order : List ℕ) → IsAccepted source ws a members order → 0 < length order
    → ((u : UnitAnalysis) → IsIn a.units u → HavePrototypes members u) → (file : SourceFile) → source_at a.table file.number ≡ Some file
    → (t : List ℕ) → ListInFile a members file t → Each (IsItem file.text.toks) (spans_by (map (begun_before file.text.toks) t))
