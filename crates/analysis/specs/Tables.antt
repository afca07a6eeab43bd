-- The files of an analysis: those that were read, and pseudo files, whose texts the program makes (this project's own).
use Rattle.std.specs.Prelude.{ℕ, ◌≡◌, true, List, [], ◌∷◌, Some, Ok, All}
use Rattle.cs_base.specs.Units.{UnitValue}
use Rattle.ws_file.specs.Workspace.{WorkspaceValue, IsWorkspace}
use Rattle.include_tree.specs.Below.source_files.Files.{Source, Found, Opened, Made, Table, found_at}
use Rattle.include_tree.specs.Below.source_files.Tables.{AreFound, HasEachOnce}
use Rattle.include_tree.specs.PseudoFiles.{is_pseudo}
use Rattle.analysis.specs.Analysis.{AnalysisValue, analysis_of}

-- a path that stands for a text which the program made is that of a pseudo file
abbrev pub IsPseudoIfMade : List ℕ → Found → Type 0
IsPseudoIfMade path (Made bytes) = is_pseudo path ≡ true
IsPseudoIfMade path _ = Unit {0}

abbrev pub MadeArePseudo : Table → Type 0
MadeArePseudo [] = Unit {0}
MadeArePseudo (e ∷ table) = IsPseudoIfMade e.path e.found × MadeArePseudo table

-- So it is in the table of each analysis.
abbrev pub MadeFilesArePseudo : Type 0
MadeFilesArePseudo = (source : Source) (ws : WorkspaceValue) (a : AnalysisValue) → analysis_of source ws ≡ Ok a → MadeArePseudo a.table

-- What the table of an analysis tells of files is what they hold.
abbrev pub TablesAreFound : Type 0
TablesAreFound = (source : Source) (ws : WorkspaceValue) (a : AnalysisValue) → analysis_of source ws ≡ Ok a → AreFound source a.table

-- the path stands for a file that was opened
abbrev pub IsOpened : List ℕ → Table → Type 0
IsOpened path table = (bytes : List ℕ) × (found_at path table ≡ Some (Opened bytes))

-- The file of each unit of a workspace is among those that its analysis opened.
abbrev pub UnitFilesAreOpened : Type 0
UnitFilesAreOpened = (source : Source) (ws : WorkspaceValue) (a : AnalysisValue) → IsWorkspace ws → analysis_of source ws ≡ Ok a
    → All (λ (unit : UnitValue). IsOpened unit.path a.table) ws.units

-- Each path has one number in the table of each analysis.
abbrev pub PathsStandOnce : Type 0
PathsStandOnce = (source : Source) (ws : WorkspaceValue) (a : AnalysisValue) → IsWorkspace ws → analysis_of source ws ≡ Ok a → HasEachOnce a.table
