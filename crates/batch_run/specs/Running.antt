-- What a run of a batch answers (this project's own).
use Rattle.std.specs.Prelude.{◌≡◌, List, [], Option, Result, Ok, Err, IfSome, flat_map}
use Rattle.std.specs.List.{list_any}
use Rattle.cs_base.specs.Edit.{IsKept}
use Rattle.cs_base.specs.Outside.{FileMap}
use Rattle.batch_run.specs.Line.{LineValue}
use Rattle.ws_file.specs.Workspace.{WorkspaceValue}
use Rattle.analysis.specs.Below.source_files.Files.{Source, Table, source_of}
use Rattle.analysis.specs.Analysis.{AnalysisValue, analysis_of}
use Rattle.analysis.specs.Answers.{fault_of}
use Rattle.analysis.specs.Carrying.{IsOver}
use Rattle.analysis.specs.declared.analyse_fault.AnalyseFault.{AnalyseFault}
use Rattle.batch_run.specs.declared.running.Batched.{Batched}
use Rattle.batch_run.specs.Batch.{Plan, IsBatch, after_each, plan_text, is_refused}
use Rattle.batch_run.specs.Keeping.{KeepsLines, KeepBetween}
use Rattle.edited_files.specs.Edited.{AreMade}

-- A batch that was run over these files, with the answers to its lines.
pub record IsRun (ws : WorkspaceValue) (files : FileMap) (lines : List LineValue) (b : Batched) (plans : List Plan) : Type 0 where
  -- every unit is accepted at the beginning
  pub analysed : (a : AnalysisValue) × (analysis_of (source_of files) ws ≡ Ok a)
  -- each line is answered as a rename over the files as those before left them
  pub answers : IsBatch ws files [] lines plans
  -- and keeps what a rename keeps
  pub keeps : KeepsLines ws files [] lines plans
  -- what is to be written
  pub text : b.text.items ≡ flat_map plan_text plans
  -- whether a line was refused
  pub refused : b.refused ≡ list_any is_refused plans
  -- what is to be put: each file that an accepted line edits, once, by path, as the last line leaves it
  pub edits : b.edits ≡ after_each plans []
  pub sound : IsKept b.edits

-- A batch that was run, over a source, with the answers to its lines: what is told and put is as above, and once the edits are
-- made, each line is answered and kept over the source that the lines before it left.
pub record IsRunOver (ws : WorkspaceValue) (lines : List LineValue) (b : Batched) (plans : List Plan) (source : Source) : Type 0 where
  pub analysed : (a : AnalysisValue) × (analysis_of source ws ≡ Ok a)
  pub meaning : (now : Source) → AreMade b.edits source now → KeepBetween ws lines plans source now
  pub text : b.text.items ≡ flat_map plan_text plans
  pub refused : b.refused ≡ list_any is_refused plans
  pub edits : b.edits ≡ after_each plans []
  pub sound : IsKept b.edits

-- so it is over each source with this analysis
abbrev pub RunsOver : WorkspaceValue → List LineValue → AnalysisValue → Batched → Type 0
RunsOver ws lines a b = (plans : List Plan) × ((source : Source) → analysis_of source ws ≡ Ok a → IsRunOver ws lines b plans source)

-- So it is over every source that agrees with what was read: what is told, where files are, is one of them.
abbrev pub RunsAsRead : Option FileMap → WorkspaceValue → List LineValue → Batched → Type 0
RunsAsRead told ws lines b = (plans : List Plan) × (table : Table) × IsOver told table (IsRunOver ws lines b plans)

-- the batch was run, or the workspace has this fault, unless a read failed or memory ran out
abbrev pub Runs : WorkspaceValue → FileMap → List LineValue → Result Batched AnalyseFault → Type 0
Runs ws files lines (Ok b) = (plans : List Plan) × IsRun ws files lines b plans
Runs ws files lines (Err e) = IfSome (fault_of e) (λ fault. analysis_of (source_of files) ws ≡ Err fault)
