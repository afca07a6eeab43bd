-- What the plan of a renaming keeps, over whatever source has the analysis (this project's, over ISO/IEC 9899:1999, 5.1.1.2
-- phases 1 to 7): its edits respell the members of the named class, and the workspace means what it meant.
use Rattle.std.specs.Prelude.{◌≡◌, ℕ, Bool, List, Ok, Err}
use Rattle.cs_base.specs.declared.positions.Part.{Part}
use Rattle.cs_base.specs.Edit.{Edit}
use Rattle.analysis.specs.Below.eclass_map.ClassTable as classes
use Rattle.ws_file.specs.Workspace.{WorkspaceValue, IsWorkspace}
use Rattle.source_files.specs.Files.{Source}
use Rattle.offences.specs.declared.refusals.Refusal.{Refusal}
use Rattle.rename_rules.specs.Renaming.{IsRenamed, IsRenaming}
use Rattle.renamed.specs.Rename.{RenamesOver}
use Rattle.analysis.specs.Analysis.{AnalysisValue, analysis_of}
use Rattle.analysis.specs.Classes.{AreItsClasses}

-- The law: the edits that a plan gives rename the class.
abbrev pub PlansKeepMeaning : Type 0
PlansKeepMeaning = (ws : WorkspaceValue) (a : AnalysisValue) (table : classes.Table) (path : List ℕ) (line column : ℕ) (name : List ℕ) (strings : Bool) (edits : List Edit)
    → IsWorkspace ws → AreItsClasses a table → IsRenaming a path line column name strings (Ok edits) → RenamesOver ws a path line column name strings edits

-- The law: a renaming of a class is refused in one way: two refusals of it name one place and one cause.
abbrev pub RefusalsAreOne : Type 0
RefusalsAreOne = (source : Source) (ws : WorkspaceValue) (a : AnalysisValue) (members : List Part) (name : List ℕ) (strings : Bool) (x y : Refusal)
    → IsWorkspace ws → analysis_of source ws ≡ Ok a → IsRenamed a members name strings (Err x) → IsRenamed a members name strings (Err y) → x ≡ y
