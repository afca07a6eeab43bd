-- The answer of the program to its words over the files held: status, output, messages and edits.
use Rattle.std.specs.Prelude.{ℕ, ◌≡◌, ◌+◌, false, List, [], ◌∷◌, Option, None, Some, Result, Ok, Err, codes, flat_map}
use Rattle.std.specs.List.{list_any}
use Rattle.std.specs.Option.{option_map, option_map_or}
use Rattle.cs_base.specs.Edit.{Edit}
use Rattle.cs_base.specs.Outside.{FileMap, bytes_at}
use Rattle.ws_file.specs.Workspace.{WorkspaceValue}
use Rattle.ws_file.specs.Reading.{WsFault, bad_line, too_many_units, workspace_of}
use Rattle.analysis.specs.Below.source_files.Files.{source_of}
use Rattle.analysis.specs.Below.unit_steps.Texts.{UnitTextValue}
use Rattle.analysis.specs.Analysis.{AnalysisValue, analysis_of}
use Rattle.analysis.specs.Texts as units
use Rattle.analysis.specs.Counts.{tokens_in}
use Rattle.unit_checks.specs.Checked.{check_text, some_refused}
use Rattle.query_report.specs.TokensText.{tokens_text}
use Rattle.query_report.specs.Skipped.{skipped_text}
use Rattle.offences.specs.declared.refusals.Refusal.{Refusal}
use Rattle.rename_rules.specs.Renaming.{IsRenaming}
use Rattle.batch_run.specs.Line.{LineValue}
use Rattle.batch_run.specs.Reading.{batch_of}
use Rattle.batch_run.specs.Batch.{Plan, IsBatch, after_each, plan_text, is_refused, refusal_line}
use Rattle.generated.specs.Generated.{header_path, workspace_path, generated_files}
use Rattle.command_words.specs.Request.{AskValue, tokens_asked, skipped_asked, check_asked, report_asked, edit_asked, trim_asked, batch_asked, RequestValue, help_asked, version_asked, generated_asked, asked_over, asked}
use Rattle.command_words.specs.Message.{usage_line, absent_line, ws_line, unit_line, refused_line, batch_line, size_line}
use Rattle.command_words.specs.Help.{help_text, version_text}
use Rattle.cscout_run.specs.declared.status.Status.TheVariants.{Refused, Usage, Workspace}
use Rattle.cscout_run.specs.Asks.{IsReportAnswer, IsEditAnswer}
use Rattle.cscout_run.specs.Shapes.{Answer, answer_of, ready_status, shown, stopped}
use Rattle.cscout_run.specs.Trims.{IsTrimAnswer}

-- ---- the workspace file

-- a refused line of the workspace file
abbrev pub ws_fault_line : List ℕ → WsFault → List ℕ
ws_fault_line ws (bad_line line) = ws_line ws line (codes "bad workspace line")
ws_fault_line ws (too_many_units line) = ws_line ws line (codes "too many units")

-- the workspace of the workspace file, or its first fault, if it is there
abbrev pub workspace_at : List ℕ → FileMap → Option (Result WorkspaceValue WsFault)
workspace_at ws files = option_map workspace_of (bytes_at ws files)

-- the answers over a workspace file: those over its workspace, and the message where it has none
abbrev pub IsOverWorkspace : List ℕ → (WorkspaceValue → Answer → Type 0) → Option (Result WorkspaceValue WsFault) → Answer → Type 0
IsOverWorkspace ws IsNext None a = stopped Workspace (absent_line ws) ≡ a
IsOverWorkspace ws IsNext (Some (Ok w)) a = IsNext w a
IsOverWorkspace ws IsNext (Some (Err fault)) a = stopped Workspace (ws_fault_line ws fault) ≡ a

-- ---- the units

-- a unit that is not accepted
abbrev pub text_fault_line : units.UnitFault → List ℕ
text_fault_line f = unit_line f.unit f.fault.place f.fault.cause

-- the answers over an analysis, and the message where a unit is not accepted
abbrev pub IsAnalysed : (AnalysisValue → Answer → Type 0) → Result AnalysisValue units.UnitFault → Answer → Type 0
IsAnalysed IsNext (Ok value) a = IsNext value a
IsAnalysed IsNext (Err fault) a = stopped Workspace (text_fault_line fault) ≡ a

-- ---- `tokens`

-- the report on a unit that is preprocessed
abbrev pub text_answer : Result UnitTextValue units.UnitFault → Answer
text_answer (Ok text) = shown (tokens_text text)
text_answer (Err fault) = stopped Workspace (text_fault_line fault)

-- the report over a workspace: the unit is preprocessed by itself, if there is one with this number
abbrev pub unit_answer : ℕ → FileMap → WorkspaceValue → Answer
unit_answer unit files w =
    option_map_or text_answer (units.one_text_of (source_of files) w.units unit)
    (stopped Refused (refused_line (codes "no unit")))

-- ---- `skipped`

-- the report on units that are preprocessed
abbrev pub texts_answer : Result units.TextsValue units.UnitFault → Answer
texts_answer (Ok texts) = shown (skipped_text texts)
texts_answer (Err fault) = stopped Workspace (text_fault_line fault)

-- the report over a workspace, all units of which are preprocessed
abbrev pub units_answer : FileMap → WorkspaceValue → Answer
units_answer files w = texts_answer (units.texts_of (source_of files) w.units)

-- ---- `check`

-- what a check of the units tells: refused where some unit is not accepted, without a message
abbrev pub check_answer : FileMap → WorkspaceValue → Answer
check_answer files w =
    answer_of (ready_status (some_refused (source_of files) w)) (check_text (source_of files) w) [] []

-- ---- `batch`

-- the lines of the batch file, or the number of the first bad one, if it is there
abbrev pub batch_at : List ℕ → FileMap → Option (Result (List LineValue) ℕ)
batch_at file files = option_map batch_of (bytes_at file files)

-- what these answers to the lines of a batch make together: each file that they edit is put once
abbrev pub lines_answer : List Plan → Answer
lines_answer plans = answer_of (ready_status (list_any is_refused plans)) (flat_map plan_text plans) [] (after_each plans [])

-- The answers to lines over a workspace, once it is analysed: each line is answered over the files as those before left them.
abbrev pub IsLinesAnswer : FileMap → WorkspaceValue → List LineValue → AnalysisValue → Answer → Type 0
IsLinesAnswer files w lines value a = (plans : List Plan) × IsBatch w files [] lines plans × (lines_answer plans ≡ a)

-- The answers over a batch file. No unit is read where it has a bad line.
abbrev pub IsBatchAnswer : FileMap → WorkspaceValue → Option (Result (List LineValue) ℕ) → Answer → Type 0
IsBatchAnswer files w None a = stopped Refused (batch_line 0) ≡ a
IsBatchAnswer files w (Some (Ok lines)) a = IsAnalysed (IsLinesAnswer files w lines) (analysis_of (source_of files) w) a
IsBatchAnswer files w (Some (Err line)) a = stopped Refused (batch_line line) ≡ a

-- ---- `generate`

-- the places that all edits change together
abbrev pub places_in : List Edit → ℕ
places_in [] = 0
places_in (e ∷ edits) = e.count + places_in edits

-- the size of a generated workspace in which `total` is renamed: nothing is put
abbrev pub size_answer : ℕ → AnalysisValue → Result (List Edit) Refusal → Answer
size_answer n value (Ok edits) = shown (size_line n (tokens_in value.units) (places_in edits))
size_answer n value (Err refusal) = stopped Refused (refusal_line refusal)

-- The answers over its analysis: the `total` that its header declares is renamed to `sum`.
abbrev pub IsSizeAnswer : ℕ → AnalysisValue → Answer → Type 0
IsSizeAnswer n value a =
    (planned : Result (List Edit) Refusal) × IsRenaming value header_path 1 12 (codes "sum") false planned × (size_answer n value planned ≡ a)

-- the answers to a generated workspace of so many units, which lies in memory
abbrev pub IsGenerated : ℕ → Answer → Type 0
IsGenerated n a =
    IsOverWorkspace workspace_path (λ w. IsAnalysed (IsSizeAnswer n) (analysis_of (source_of (generated_files n)) w))
    (workspace_at workspace_path (generated_files n)) a

-- ---- the whole

-- The answers to what is asked over a workspace. Reports, edits and trims rest on its analysis.
abbrev pub IsAskAnswer : FileMap → AskValue → WorkspaceValue → Answer → Type 0
IsAskAnswer files (tokens_asked unit) w a = unit_answer unit files w ≡ a
IsAskAnswer files skipped_asked w a = units_answer files w ≡ a
IsAskAnswer files check_asked w a = check_answer files w ≡ a
IsAskAnswer files (report_asked report) w a = IsAnalysed (IsReportAnswer report) (analysis_of (source_of files) w) a
IsAskAnswer files (edit_asked edit) w a = IsAnalysed (IsEditAnswer edit) (analysis_of (source_of files) w) a
IsAskAnswer files (trim_asked stays) w a = IsAnalysed (IsTrimAnswer stays) (analysis_of (source_of files) w) a
IsAskAnswer files (batch_asked file) w a = IsBatchAnswer files w (batch_at file files) a

-- The answers to a request.
abbrev pub IsRequestAnswer : FileMap → RequestValue → Answer → Type 0
IsRequestAnswer files help_asked a = shown help_text ≡ a
IsRequestAnswer files version_asked a = shown version_text ≡ a
IsRequestAnswer files (generated_asked n) a = IsGenerated n a
IsRequestAnswer files (asked_over ws ask) a = IsOverWorkspace ws (IsAskAnswer files ask) (workspace_at ws files) a

-- the same to words, which may be of no form
abbrev pub IsAnswerTo : FileMap → Option RequestValue → Answer → Type 0
IsAnswerTo files None a = stopped Usage usage_line ≡ a
IsAnswerTo files (Some request) a = IsRequestAnswer files request a

-- The answer to the words over the files: a command line of no form first, then the workspace file, then the batch file,
-- then the units, then the refusals of the command.
unfoldable pub IsAnswer : List (List ℕ) → FileMap → Answer → Type 0
IsAnswer words files a = IsAnswerTo files (asked words) a
