-- Units under a renaming against which nothing stands: they are read and bound as before (ISO/IEC 9899:1999, 5.1.1.2 phase 7).
use Rattle.std.specs.Prelude.{ℕ, ◌≡◌, List, Ok, Some}
use Rattle.cs_base.specs.declared.positions.Part.{Part}
use Rattle.ws_file.specs.Workspace.{IsWorkspace}
use Rattle.source_files.specs.Files.{Source}
use Rattle.source_files.specs.Tables.{HasEachOnce}
use Rattle.edited_unit_laws.specs.Lines.{Each}
use Rattle.edited_unit_laws.specs.EditedFiles.{HoldsEdited}
use Rattle.edited_unit_laws.specs.Analyses.{ReadsAlike, renamed_analysis}
use Rattle.analysis.specs.Analysed.{Analysed}
use Rattle.analysis.specs.Analysis.{analysis_of}
use Rattle.analysis.specs.Naming.{Names}
use Rattle.rename_meaning.specs.Allowed.{IsAllowed}
use Rattle.rename_meaning.specs.KeptUnits.{change}

-- The law: where nothing stands against spelling the members of a class otherwise, the renamed tokens of each unit of the
-- analysis are read to the tree that it had (Annex A), and bound as they were (6.2).
abbrev pub UnitsReadAsBefore : Type 0
UnitsReadAsBefore = (a : Analysed) (members : List Part) (name : List ℕ) → IsAllowed a members name → Each (ReadsAlike (change a.value members name).renaming) a.value.units

-- The law: so for a class that a place names, in a workspace whose table has each path once, files that hold the edited bytes
-- have the analysis renamed: the same trees and bindings, with the renamed texts, and the edited table.
abbrev pub EditedFilesHaveRenamedAnalysis : Type 0
EditedFilesHaveRenamedAnalysis = (a : Analysed) (members : List Part) (name path : List ℕ) (line column : ℕ) → (h : IsAllowed a members name) → IsWorkspace h.workspace → HasEachOnce a.value.table
    → Names a.value path line column (Some h.class.part) → (new : Source) → HoldsEdited (change a.value members name) h.source new
    → analysis_of new h.workspace ≡ Ok (renamed_analysis (change a.value members name) a.value)
