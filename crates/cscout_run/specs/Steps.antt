-- What the steps of a run promise each other.
use Rattle.std.specs.Prelude.{ℕ, ◌≡◌, List, [], Option, None, Some, Result, Ok, Err}
use Rattle.cs_base.specs.Outside.{FileMap, ReadEnd, NoneFailed}
use Rattle.cs_base.specs.Edit.{Edit, IsKept}
use Rattle.ws_file.specs.Workspace.{WorkspaceValue}
use Rattle.ws_file.specs.Reading.{WsFault}
use Rattle.analysis.specs.Below.source_files.Files.{source_of}
use Rattle.analysis.specs.Analysis.{AnalysisValue, analysis_of}
use Rattle.analysis.specs.Texts.{UnitFault}
use Rattle.analysis.specs.declared.analyse_fault.AnalyseFault.{AnalyseFault}
use Rattle.analysis.specs.declared.analyse_fault.AnalyseFault.TheVariants as fault
use Rattle.find_names.specs.declared.refusal.FindRefusal.{FindRefusal}
use Rattle.find_names.specs.declared.refusal.FindRefusal.TheVariants as found
use Rattle.unit_checks.specs.declared.check_fault.CheckFault.{CheckFault}
use Rattle.unit_checks.specs.declared.check_fault.CheckFault.TheVariants as checked
use Rattle.query_report.specs.Queries.{IsReport}
use Rattle.query_report.specs.declared.queries.Query.{Query}
use Rattle.batch_run.specs.Line.{LineValue}
use Rattle.batch_run.specs.Batch.{Plan, IsBatch, after_each}
use Rattle.batch_run.specs.Keeping.{KeepsLines}
use Rattle.command_words.specs.Request.{AskValue, edit_asked, trim_asked, batch_asked, EditValue, RequestValue, asked_over}
use Rattle.command_words.specs.Message.{absent_line, batch_line}
use Rattle.cscout_run.specs.declared.preparing.Ready.{Ready}
use Rattle.cscout_run.specs.declared.status.Status.TheVariants as status
use Rattle.cscout_run.specs.declared.stops.Fault.TheVariants.{Unit as NotAccepted}
use Rattle.cscout_run.specs.declared.stops.Stop.{Stop}
use Rattle.cscout_run.specs.declared.stops.Stop.TheVariants.{Workspace, Unread, Refused, Memory}
use Rattle.cscout_run.specs.declared.stops.Why.TheVariants.{BadQuery, DeepQuery}
use Rattle.cscout_run.specs.Answer.{batch_at, text_fault_line, workspace_at, ws_fault_line}
use Rattle.cscout_run.specs.Asks.{KeepsOver, told_answer}
use Rattle.cscout_run.specs.Shapes.{Answer, answer_of, ready_status, stopped}
use Rattle.cscout_run.specs.Stopping.{Stops, stop_reads, why_line}
use Rattle.cscout_run.specs.Trims.{TrimPlanned}

-- ---- what stands ready

-- the answer of what stands ready to be put and written
abbrev pub ready_answer : Ready → Answer
ready_answer ready = answer_of (ready_status ready.refused) ready.text.items [] ready.edits

-- what stands ready is an answer, or the message of the early end is; `ws` is the workspace file
abbrev pub Prepares : List ℕ → (Answer → Type 0) → Result Ready Stop → Type 0
Prepares ws IsAnswer (Ok ready) = IsAnswer (ready_answer ready)
Prepares ws IsAnswer (Err stop) = Stops ws IsAnswer stop

-- the same whatever the workspace file is
abbrev pub Answers : (Answer → Type 0) → Result Ready Stop → Type 0
Answers IsAnswer result = (ws : List ℕ) → Prepares ws IsAnswer result

-- What is told over an analysis is an answer, or the message of its refusal is, unless memory ran out; there is no other early end.
abbrev pub Tells : {X : Type 0} → (X → Answer) → (Answer → Type 0) → Result X Stop → Type 0
Tells answer IsAnswer (Ok x) = IsAnswer (answer x)
Tells answer IsAnswer (Err (Refused why)) = IsAnswer (stopped status.Refused (why_line why))
Tells answer IsAnswer (Err Memory) = Unit {0}
Tells answer IsAnswer (Err (Workspace fault)) = ⊥
Tells answer IsAnswer (Err (Unread path)) = ⊥

-- the answers to a query of `report`
abbrev pub IsQueried : Query → AnalysisValue → Answer → Type 0
IsQueried q value a = (told : Option (List ℕ)) × IsReport value q told × (told_answer told ≡ a)

-- what a step says of reads: where it goes on, none failed
abbrev pub reads_of : {X : Type 0} → Result X Stop → ReadEnd
reads_of (Ok x) = NoneFailed
reads_of (Err stop) = stop_reads stop

-- an early end without a read that failed
abbrev pub IsQuiet : Stop → Type 0
IsQuiet (Workspace fault) = Unit {0}
IsQuiet (Unread path) = ⊥
IsQuiet (Refused why) = Unit {0}
IsQuiet Memory = Unit {0}

-- an early end behind what stands ready: a read failed, or memory ran out
abbrev pub IsLateStop : Stop → Type 0
IsLateStop (Workspace fault) = ⊥
IsLateStop (Unread path) = Unit {0}
IsLateStop (Refused why) = ⊥
IsLateStop Memory = Unit {0}

-- ---- what is read

-- what every ask answers where the workspace file has no workspace
abbrev pub no_workspace : List ℕ → Option (Result WorkspaceValue WsFault) → Option Answer
no_workspace ws None = Some (stopped status.Workspace (absent_line ws))
no_workspace ws (Some (Ok w)) = None
no_workspace ws (Some (Err fault)) = Some (stopped status.Workspace (ws_fault_line ws fault))

-- the workspace file holds this workspace, or has none, and the message of the early end says so
abbrev pub ReadsWorkspace : List ℕ → FileMap → Result WorkspaceValue Stop → Type 0
ReadsWorkspace ws files (Ok w) = workspace_at ws files ≡ Some (Ok w)
ReadsWorkspace ws files (Err stop) = Stops ws (λ a. no_workspace ws (workspace_at ws files) ≡ Some a) stop

-- what reports and edits answer where a unit is not accepted
abbrev pub no_analysis : Result AnalysisValue UnitFault → Option Answer
no_analysis (Ok value) = None
no_analysis (Err fault) = Some (stopped status.Workspace (text_fault_line fault))

-- the workspace has this analysis, or a unit is not accepted, and the message of the early end says so
abbrev pub Analyses : {X : Type 0} → (X → AnalysisValue) → WorkspaceValue → FileMap → Result X Stop → Type 0
Analyses view w files (Ok x) = analysis_of (source_of files) w ≡ Ok (view x)
Analyses view w files (Err stop) = (ws : List ℕ) → Stops ws (λ a. no_analysis (analysis_of (source_of files) w) ≡ Some a) stop

-- what a batch answers where the batch file has no lines to run
abbrev pub no_lines : Option (Result (List LineValue) ℕ) → Option Answer
no_lines None = Some (stopped status.Refused (batch_line 0))
no_lines (Some (Ok lines)) = None
no_lines (Some (Err line)) = Some (stopped status.Refused (batch_line line))

-- the batch file holds these lines, or has none to run, and the message of the early end says so
abbrev pub ReadsLines : {X : Type 0} → (X → List LineValue) → List ℕ → FileMap → Result X Stop → Type 0
ReadsLines view file files (Ok lines) = batch_at file files ≡ Some (Ok (view lines))
ReadsLines view file files (Err stop) = (ws : List ℕ) → Stops ws (λ a. no_lines (batch_at file files) ≡ Some a) stop

-- ---- refusals of the steps, as early ends

-- why a workspace has no texts
abbrev pub stop_of : AnalyseFault → Stop
stop_of (fault.WorkspaceFault unit place cause) = Workspace (NotAccepted unit place cause)
stop_of (fault.ReadFault path) = Unread path
stop_of fault.Memory = Memory

-- why nothing is told of units
abbrev pub check_stop : CheckFault → Stop
check_stop (checked.ReadFault path) = Unread path
check_stop checked.Memory = Memory

-- why nothing is found
abbrev pub find_stop : FindRefusal → Stop
find_stop (found.BadQuery at) = Refused (BadQuery at)
find_stop (found.TooDeep at) = Refused (DeepQuery at)
find_stop found.Memory = Memory

-- ---- what stands ready to be put

-- Accepted edits, as they stand before the first put: they keep what is promised over the analysis of the workspace, and their
-- paths are in order.
pub record Planned (edit : EditValue) (ws : WorkspaceValue) (files : FileMap) (edits : List Edit) : Type 0 where
  pub analysis : AnalysisValue
  pub analysed : analysis_of (source_of files) ws ≡ Ok analysis
  pub keeps : KeepsOver edit analysis edits
  pub sound : IsKept edits

-- A batch whose lines were run, as it stands before the first put.
pub record LinesRun (file : List ℕ) (ws : WorkspaceValue) (files : FileMap) (edits : List Edit) : Type 0 where
  pub lines : List LineValue
  pub plans : List Plan
  pub batch : batch_at file files ≡ Some (Ok lines)
  pub answers : IsBatch ws files [] lines plans
  pub keeps : KeepsLines ws files [] lines plans
  pub edits_are : edits ≡ after_each plans []

-- what stands ready over a workspace, by what is asked: edits are planned, and the lines of a batch were run
abbrev pub IsPlanned : AskValue → WorkspaceValue → FileMap → List Edit → Type 0
IsPlanned (edit_asked edit) ws files edits = Planned edit ws files edits
IsPlanned (trim_asked stays) ws files edits = TrimPlanned ws files edits
IsPlanned (batch_asked file) ws files edits = LinesRun file ws files edits
IsPlanned _ ws files edits = Unit {0}

-- the same over a workspace file, which has a workspace
pub record PlannedOver (file : List ℕ) (ask : AskValue) (files : FileMap) (edits : List Edit) : Type 0 where
  pub ws : WorkspaceValue
  pub workspace : workspace_at file files ≡ Some (Ok ws)
  pub planned : IsPlanned ask ws files edits

-- the same for a request
abbrev pub IsPlannedFor : RequestValue → FileMap → List Edit → Type 0
IsPlannedFor (asked_over file ask) files edits = PlannedOver file ask files edits
IsPlannedFor _ files edits = Unit {0}
