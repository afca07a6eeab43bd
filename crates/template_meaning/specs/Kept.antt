-- What a new order and its plan keep (this project's, over ISO/IEC 9899:1999, 5.1.1.2 phases 1 to 7): the edits put the items of
-- lists in the new order, and the workspace means what it meant.
use Rattle.std.specs.Prelude.{ℕ, ◌≡◌, List, [], Ok, Err}
use Rattle.cs_base.specs.declared.positions.Part.{Part}
use Rattle.cs_base.specs.Edit.{Edit}
use Rattle.source_files.specs.Files.{Source}
use Rattle.ws_file.specs.Workspace.{WorkspaceValue, IsWorkspace}
use Rattle.analysis.specs.Analysis.{AnalysisValue, analysis_of}
use Rattle.analysis.specs.GnuUnits.{gnu_places}
use Rattle.offences.specs.declared.refusals.Refusal.{Refusal}
use Rattle.template_rules.specs.Template.{IsReordered, IsTemplate}
use Rattle.template_meaning.specs.Accepted.{IsAccepted}
use Rattle.reordered.specs.Reordered.{AnalysisIsReordered}
use Rattle.reordered.specs.Reorder.{AreReordered, ReordersOver}

-- The law: where nothing stands against a new order, files whose lists are in it have the analysis that they had, reordered.
abbrev pub OrdersKeepMeaning : Type 0
OrdersKeepMeaning = (before now : Source) (ws : WorkspaceValue) (a : AnalysisValue) (members : List Part) (order : List ℕ) → IsWorkspace ws
    → IsAccepted before ws a members order → AreReordered members order a before now → AnalysisIsReordered now ws a members order

-- The law: so the edits that a plan gives keep meaning, where no unit is of GNU C.
abbrev pub PlansKeepMeaning : Type 0
PlansKeepMeaning = (ws : WorkspaceValue) (a : AnalysisValue) (path : List ℕ) (line column : ℕ) (order : List ℕ) (edits : List Edit) → IsWorkspace ws
    → gnu_places a ≡ [] → IsTemplate a path line column order (Ok edits) → ReordersOver ws a path line column order edits

-- The law: a new order is refused for its offences in one way: two refusals of it name one place and one cause.
abbrev pub RefusalsAreOne : Type 0
RefusalsAreOne = (source : Source) (ws : WorkspaceValue) (a : AnalysisValue) (members : List Part) (order : List ℕ) (x y : Refusal)
    → IsWorkspace ws → analysis_of source ws ≡ Ok a → IsReordered a members order (Err x) → IsReordered a members order (Err y) → x ≡ y
