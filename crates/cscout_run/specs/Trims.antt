-- The answer to a trim over an analysis, and what stands ready then.
use Rattle.std.specs.Prelude.{ℕ, ◌≡◌, Bool, if◌then◌else◌, List, [], ◌++◌, Ok}
use Rattle.cs_base.specs.Edit.{Edit, IsKept}
use Rattle.cs_base.specs.Outside.{FileMap}
use Rattle.ws_file.specs.Workspace.{WorkspaceValue}
use Rattle.analysis.specs.Below.source_files.Files.{source_of}
use Rattle.analysis.specs.Analysis.{AnalysisValue, analysis_of}
use Rattle.trim_plan.specs.Kept.{KeepsRestOver}
use Rattle.trim_plan.specs.Stays.{IsTold}
use Rattle.command_words.specs.Message.{edited_lines}
use Rattle.cscout_run.specs.declared.status.Status.TheVariants.{Done}
use Rattle.cscout_run.specs.Shapes.{Answer, answer_of}

-- the lines of the include lines that stay, where they are asked for
abbrev pub asked_lines : Bool → List ℕ → List ℕ
asked_lines asked stays = if asked then stays else []

-- a line for each file that changes, then these
abbrev pub trim_answer : Bool → List Edit → List ℕ → Answer
trim_answer asked edits stays = answer_of Done (edited_lines edits ++ asked_lines asked stays) [] edits

-- The answer to a trim over an analysis, which may tell what stays.
abbrev pub IsTrimAnswer : Bool → AnalysisValue → Answer → Type 0
IsTrimAnswer asked value a = (edits : List Edit) × (stays : List ℕ) × IsTold value edits stays × (trim_answer asked edits stays ≡ a)

-- Its edits, as they stand before the first put: they keep what is promised over the analysis of the workspace, and their paths are
-- in order.
pub record TrimPlanned (ws : WorkspaceValue) (files : FileMap) (edits : List Edit) : Type 0 where
  pub analysis : AnalysisValue
  pub analysed : analysis_of (source_of files) ws ≡ Ok analysis
  pub keeps : KeepsRestOver analysis edits
  pub sound : IsKept edits
