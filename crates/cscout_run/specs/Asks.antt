-- The table of what is asked over an analysis: the answers to each report and to each edit, and what each edit keeps.
use Rattle.std.specs.Prelude.{ℕ, ◌≡◌, List, [], Option, None, Some, Result, Ok, Err, codes}
use Rattle.cs_base.specs.declared.positions.Part.{Part}
use Rattle.cs_base.specs.Edit.{Edit}
use Rattle.ws_file.specs.Workspace.{WorkspaceValue}
use Rattle.analysis.specs.Below.source_files.Files.{Source}
use Rattle.analysis.specs.Analysis.{AnalysisValue, analysis_of}
use Rattle.analysis.specs.ClassReport.{IsClassReport}
use Rattle.analysis.specs.Naming.{Names}
use Rattle.edited_files.specs.Edited.{AreMade}
use Rattle.offences.specs.Class.{NamedClass}
use Rattle.offences.specs.declared.refusals.Refusal.{Refusal}
use Rattle.rename_rules.specs.Renaming.{IsRenaming}
use Rattle.renamed.specs.Rename.{IsRename}
use Rattle.reordered.specs.Reorder.{IsReorder}
use Rattle.template_rules.specs.Template.{IsTemplate}
use Rattle.macro_plan.specs.Kept.{IsTurn}
use Rattle.macro_plan.specs.Macro.{IsMacro}
use Rattle.unseen_names.specs.Unseen.{PrintsUnseen}
use Rattle.query_report.specs.Queries.{IsUnusedReport, IsIncludesReport}
use Rattle.calls_of.specs.Graph.{GraphValue}
use Rattle.calls_of.specs.Graphs.{IsGraphOf, calls_text}
use Rattle.query_words.specs.Queries.{Query}
use Rattle.query_words.specs.Reading.{parsed}
use Rattle.query_words.specs.declared.faults.QueryFault.{QueryFault}
use Rattle.query_words.specs.declared.faults.QueryFault.TheVariants.{Bad, Deep}
use Rattle.find_names.specs.Found.{PrintsFound}
use Rattle.command_words.specs.Message.{refused_line, query_line}
use Rattle.command_words.specs.Request.{EditValue, rename_asked, template_asked, macro_asked, ReportValue, class_asked, unused_asked, includes_asked, calls_asked, find_asked}
use Rattle.batch_run.specs.Batch.{refusal_line}
use Rattle.cscout_run.specs.declared.status.Status.TheVariants.{Refused}
use Rattle.cscout_run.specs.Shapes.{Answer, edited, shown, stopped}

-- ---- reports

-- a text, or that the place names nothing
abbrev pub told_answer : Option (List ℕ) → Answer
told_answer None = stopped Refused (refused_line (codes "no name"))
told_answer (Some text) = shown text

-- a word that is no query
abbrev pub query_fault_line : QueryFault → List ℕ
query_fault_line (Bad at) = query_line (codes "bad query") at
query_fault_line (Deep at) = query_line (codes "query too deep") at

-- the lines of the classes that a query finds, or its first fault
abbrev pub IsFindAnswer : AnalysisValue → Result Query QueryFault → Answer → Type 0
IsFindAnswer value (Ok q) a = (text : List ℕ) × PrintsFound value q text × (shown text ≡ a)
IsFindAnswer value (Err fault) a = stopped Refused (query_fault_line fault) ≡ a

-- The answers to a report over an analysis. Chains of links make the classes, so they are told by relations: the answer is that
-- of what is told.
abbrev pub IsReportAnswer : ReportValue → AnalysisValue → Answer → Type 0
IsReportAnswer (class_asked q) value a = (told : Option (List ℕ)) × IsClassReport value q.path q.line q.column told × (told_answer told ≡ a)
IsReportAnswer unused_asked value a = (told : Option (List ℕ)) × IsUnusedReport value told × (told_answer told ≡ a)
IsReportAnswer includes_asked value a = (told : Option (List ℕ)) × IsIncludesReport value told × (told_answer told ≡ a)
IsReportAnswer calls_asked value a = (g : GraphValue) × IsGraphOf value g × (shown (calls_text value.table g) ≡ a)
IsReportAnswer (find_asked query) value a = IsFindAnswer value (parsed query) a

-- ---- edits

-- What is planned over an analysis: edits, or why they are refused.
abbrev pub IsEdit : EditValue → AnalysisValue → Result (List Edit) Refusal → Type 0
IsEdit (rename_asked q) value planned = IsRenaming value q.path q.line q.column q.name q.strings planned
IsEdit (template_asked q) value planned = IsTemplate value q.path q.line q.column q.order planned
IsEdit (macro_asked q) value planned = IsMacro value q.path q.line q.column q.order planned

-- the lines of the places where the name of the class of a part stands unseen; an edit that is done has named a part
abbrev pub TellsUnseen : AnalysisValue → Option Part → List ℕ → Type 0
TellsUnseen value None text = text ≡ []
TellsUnseen value (Some part) text = PrintsUnseen value part text

-- those of the part that a place names
pub record LeavesAt (path : List ℕ) (line column : ℕ) (value : AnalysisValue) (text : List ℕ) : Type 0 where
  pub part : Option Part
  pub named : Names value path line column part
  pub told : TellsUnseen value part text

-- those of the place of an edit
abbrev pub LeavesUnseen : EditValue → AnalysisValue → List ℕ → Type 0
LeavesUnseen (rename_asked q) value text = LeavesAt q.path q.line q.column value text
LeavesUnseen (template_asked q) value text = LeavesAt q.path q.line q.column value text
LeavesUnseen (macro_asked q) value text = LeavesAt q.path q.line q.column value text

-- the edits that are planned, with what they leave unseen, or the message of their refusal
abbrev pub IsEditTold : EditValue → AnalysisValue → Result (List Edit) Refusal → Answer → Type 0
IsEditTold edit value (Ok edits) a = (text : List ℕ) × LeavesUnseen edit value text × (edited edits text ≡ a)
IsEditTold edit value (Err refusal) a = stopped Refused (refusal_line refusal) ≡ a

-- The answers to an edit over an analysis.
abbrev pub IsEditAnswer : EditValue → AnalysisValue → Answer → Type 0
IsEditAnswer edit value a = (planned : Result (List Edit) Refusal) × IsEdit edit value planned × IsEditTold edit value planned a

-- ---- what edits keep

-- What an edit that is done keeps over a workspace, between what stood at each path before it and what stands there behind it.
abbrev pub Keeps : EditValue → WorkspaceValue → Source → Source → Type 0
Keeps (rename_asked q) ws before now = (class : NamedClass) × IsRename ws q.path q.line q.column q.name q.strings before now class
Keeps (template_asked q) ws before now = (class : NamedClass) × IsReorder ws q.path q.line q.column q.order before now class
Keeps (macro_asked q) ws before now = (class : NamedClass) × IsTurn ws q.path q.line q.column q.order before now class

-- The promise of planned edits: so it is over each source with this analysis, once they are made.
abbrev pub KeepsOver : EditValue → AnalysisValue → List Edit → Type 0
KeepsOver edit value edits =
    (before now : Source) → analysis_of before value.workspace ≡ Ok value → AreMade edits before now → Keeps edit value.workspace before now
