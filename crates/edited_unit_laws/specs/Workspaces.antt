-- A workspace over files in which the items of lists change places (ISO/IEC 9899:1999, 5.1.1.2 phases 1 to 7): what is asked of its
-- files, of its units and their runs, and what its analysis is then.
use Rattle.std.specs.Prelude.{◌≡◌, ◌⊎◌, ℕ, List, length, Some, Ok, slice_get}
use Rattle.std.specs.Option.{option_map_or}
use Rattle.lexer.specs.FileText.{TextValue, file_text}
use Rattle.ws_file.specs.Workspace.{WorkspaceValue}
use Rattle.source_files.specs.Files.{Source, Found, Unopened, Opened, entry, Table}
use Rattle.analysis.specs.Analysis.{UnitAnalysis, units_and, AnalysisValue, analysis_of}
use Rattle.analysis.specs.Changed.{Editing, edited_table}
use Rattle.list_cuts.specs.Cuts.{Cut, done, IsOrder, AreOf}
use Rattle.unit_laws.specs.Edited.{Edit, edited_files, IsEditedSource}
use Rattle.unit_laws.specs.Files.{FileCuts, TextStands, RunsMark}
use Rattle.unit_laws.specs.Reordered.{ListsStand}
use Rattle.unit_laws.specs.Walking.{IsOf}
use Rattle.edited_unit_laws.specs.ReorderedAnalyses.{UnitCuts, ReadsSo, AreReordered}

-- ---- files

-- the cut of the tokens of a file, by its path and its bytes
abbrev pub PathCuts : Type 0
PathCuts = List ℕ → List ℕ → Cut

-- the cut of what a number stands for: only a file that was opened has lists
abbrev pub found_cut : PathCuts → List ℕ → Found → Cut
found_cut cuts path (Opened bytes) = cuts path bytes
found_cut cuts path _ = done

-- the cuts of the files of a table, by number
abbrev pub cuts_in : PathCuts → Table → FileCuts
cuts_in cuts files number = option_map_or (λ e. found_cut cuts e.path e.found) (slice_get files number) done

-- The text of a file with these bytes, whatever number it has, is the old one in the new order once the file is edited; and the file
-- is as long as it was.
pub record PathStands (edit : Edit) (n : ℕ) (order : List ℕ) (cuts : PathCuts) (path bytes : List ℕ) : Type 0 where
  pub size : length (edit path bytes) ≡ length bytes
  pub of : AreOf n (cuts path bytes)
  pub stands : (number : ℕ) (text : TextValue) → file_text number bytes ≡ Ok text
      → (text2 : TextValue) × (file_text number (edit path bytes) ≡ Ok text2) × TextStands order (cuts path bytes) text text2

-- so it is with each path that holds a file
abbrev pub PathsStand : Edit → Source → ℕ → List ℕ → PathCuts → Type 0
PathsStand edit old n order cuts = (path bytes : List ℕ) → old path ≡ Some bytes → PathStands edit n order cuts path bytes

-- ---- tables

-- The bytes that an edit gives by number are those that it gives by path, for each file of a table that is there.
abbrev pub AreEditedAlike : Edit → Editing → Table → Type 0
AreEditedAlike edit editing files = (number : ℕ) (path bytes : List ℕ)
    → (slice_get files number ≡ Some (entry path (Unopened bytes))) ⊎ (slice_get files number ≡ Some (entry path (Opened bytes))) → editing number bytes ≡ edit path bytes

-- The law: then the table that is edited by path is the one that is edited by number.
abbrev pub TablesAreOne : Type 0
TablesAreOne = (edit : Edit) (editing : Editing) (files : Table) → AreEditedAlike edit editing files → edited_files edit files ≡ edited_table editing files

-- ---- units

-- The lists of a unit, of so many items, stand in it, and in its runs where its files have them.
pub record UnitMarks (n : ℕ) (cuts : PathCuts) (files : Table) (c : Cut) (u : UnitAnalysis) : Type 0 where
  pub of : AreOf n c
  pub lists : ListsStand c u.text
  pub runs : RunsMark (cuts_in cuts files) files c u.text

-- ---- the law

-- Then the workspace over the edited files has the units in the new order, each read and bound.
abbrev pub WorkspacesAreReordered : Type 0
WorkspacesAreReordered = (edit : Edit) (n : ℕ) (order : List ℕ) (paths : PathCuts) (cuts : UnitCuts) (old new : Source) (ws : WorkspaceValue) (a : AnalysisValue)
    → IsOrder n order → IsEditedSource edit old new → PathsStand edit old n order paths → analysis_of old ws ≡ Ok a
    → ((u : UnitAnalysis) → IsOf a.units u → UnitMarks n paths a.table (cuts u) u) → ((u : UnitAnalysis) → IsOf a.units u → ReadsSo order (cuts u) u)
    → (b : AnalysisValue) × (analysis_of new ws ≡ Ok b) × (b.workspace ≡ ws) × (a.workspace ≡ ws) × AreReordered edit order cuts (units_and a.units a.table) (units_and b.units b.table)
