-- The analysis of a workspace over files in which the items of lists change places (ISO/IEC 9899:1999, 5.1.1.2 phases 4 and 7).
use Rattle.std.specs.Prelude.{◌≡◌, ℕ, List, length, Some, Ok, slice_get}
use Rattle.cs_base.specs.Units.{UnitValue}
use Rattle.ws_file.specs.Workspace.{WorkspaceValue}
use Rattle.source_files.specs.Files.{Source, Table, Carried}
use Rattle.source_files.specs.Tables.{AreFound}
use Rattle.unit_steps.specs.Texts.{UnitTextValue}
use Rattle.analysis.specs.Analysis.{UnitAnalysis, UnitsValue, units_and, AnalysisValue, analysed_from, analysis_of}
use Rattle.edited_unit_laws.specs.Analyses.{IsRead}
use Rattle.list_cuts.specs.Cuts.{Cut, IsOrder, arranged, AreOf}
use Rattle.unit_laws.specs.Edited.{Edit, edited_files, edited_carried, IsEditedSource}
use Rattle.unit_laws.specs.Reordered.{ListsStand, RunsStand}
use Rattle.unit_laws.specs.Walking.{KeepsTexts, IsOf, plains}

-- where the lists of each unit stand among its tokens
abbrev pub UnitCuts : Type 0
UnitCuts = UnitAnalysis → Cut

-- The lists of a unit, of so many items, stand in it and in its runs; the workspace has these files in the end.
pub record UnitStands (edit : Edit) (old : Source) (n : ℕ) (order : List ℕ) (files : Table) (c : Cut) (u : UnitAnalysis) : Type 0 where
  pub of : AreOf n c
  pub lists : ListsStand c u.text
  pub runs : RunsStand edit old order files c u.text

-- A text whose tokens are those of the unit in the new order, by their kinds and spellings, is read by its standard and bound.
abbrev pub ReadsSo : List ℕ → Cut → UnitAnalysis → Type 0
ReadsSo order c u = (text : UnitTextValue) → plains text.toks ≡ arranged order c (plains u.text.toks)
    → (v : UnitAnalysis) × (v.text ≡ text) × (v.standard ≡ u.standard) × IsRead v

-- A unit with its tokens in the new order, which is read and bound.
pub record IsReorderedText (order : List ℕ) (c : Cut) (u v : UnitAnalysis) : Type 0 where
  pub standard : v.standard ≡ u.standard
  pub toks : plains v.text.toks ≡ arranged order c (plains u.text.toks)
  pub read : IsRead v

-- So it is with all units, one by one; the table has the edited bytes.
pub record AreReordered (edit : Edit) (order : List ℕ) (cuts : UnitCuts) (v w : UnitsValue) : Type 0 where
  pub many : length w.units ≡ length v.units
  pub units : (k : ℕ) (u x : UnitAnalysis) → slice_get v.units k ≡ Some u → slice_get w.units k ≡ Some x → IsReorderedText order (cuts u) u x
  pub table : w.table ≡ edited_files edit v.table

-- What is asked of all units: their lists stand in them and in their runs, and they are read in the new order.
pub record AllStand (edit : Edit) (old : Source) (n : ℕ) (order : List ℕ) (cuts : UnitCuts) (v : UnitsValue) : Type 0 where
  pub stands : (u : UnitAnalysis) → IsOf v.units u → UnitStands edit old n order v.table (cuts u) u
  pub reads : (u : UnitAnalysis) → IsOf v.units u → ReadsSo order (cuts u) u

-- The law: then the units over the edited files are those.
abbrev pub UnitAnalysesAreReordered : Type 0
UnitAnalysesAreReordered = (edit : Edit) (n : ℕ) (order : List ℕ) (cuts : UnitCuts) (old new : Source) (number : ℕ) (units : List UnitValue) (before : Carried) (v : UnitsValue)
    → IsOrder n order → IsEditedSource edit old new → KeepsTexts edit old → AreFound old before.table → analysed_from old number units before ≡ Ok v
    → AllStand edit old n order cuts v
    → (w : UnitsValue) × (analysed_from new number units (edited_carried edit before) ≡ Ok w) × AreReordered edit order cuts v w

-- The same of a workspace.
abbrev pub WorkspaceIsReordered : Type 0
WorkspaceIsReordered = (edit : Edit) (n : ℕ) (order : List ℕ) (cuts : UnitCuts) (old new : Source) (ws : WorkspaceValue) (a : AnalysisValue)
    → IsOrder n order → IsEditedSource edit old new → KeepsTexts edit old → analysis_of old ws ≡ Ok a → AllStand edit old n order cuts (units_and a.units a.table)
    → (b : AnalysisValue) × (analysis_of new ws ≡ Ok b) × (b.workspace ≡ ws) × (a.workspace ≡ ws) × AreReordered edit order cuts (units_and a.units a.table) (units_and b.units b.table)
