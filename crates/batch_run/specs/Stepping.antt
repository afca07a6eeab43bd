-- What the steps of a batch promise each other.
use Rattle.std.specs.Prelude.{◌≡◌, ◌++◌, ◌||◌, List, Result, flat_map, Ok}
use Rattle.std.specs.List.{list_any}
use Rattle.cs_base.specs.Edit.{Edit, with_edits}
use Rattle.cs_base.specs.Outside.{FileMap}
use Rattle.batch_run.specs.Line.{LineValue}
use Rattle.ws_file.specs.Workspace.{WorkspaceValue}
use Rattle.analysis.specs.Below.source_files.Files.{Source, source_of}
use Rattle.edited_files.specs.Edited.{AreMade}
use Rattle.analysis.specs.Analysis.{AnalysisValue, analysis_of}
use Rattle.offences.specs.declared.refusals.Refusal.{Refusal}
use Rattle.rename_rules.specs.Renaming.{IsRenaming}
use Rattle.batch_run.specs.declared.stepping.Batching.{Batching}
use Rattle.batch_run.specs.Batch.{Plan, IsLine, IsBatch, after, after_each, plan_text, is_refused}
use Rattle.batch_run.specs.Keeping.{KeepsLine, KeepsLines, KeepsSource, Leaves, KeepBetween}

-- the workspace has this analysis over the files with these edits
abbrev pub IsOver : WorkspaceValue → FileMap → List Edit → AnalysisValue → Type 0
IsOver ws files edits a = analysis_of (source_of (with_edits edits files)) ws ≡ Ok a

-- the same of the analysis and the edits of a batch behind some of its lines
abbrev pub AreOf : WorkspaceValue → Batching → FileMap → Type 0
AreOf ws s files = IsOver ws files s.edits s.analysis.value

-- some files have it
abbrev pub IsReady : WorkspaceValue → Batching → Type 0
IsReady ws s = (files : FileMap) × AreOf ws s files

-- the answer to a line there
abbrev pub IsAnswered : Batching → LineValue → Result (List Edit) Refusal → Type 0
IsAnswered s q answer = IsRenaming s.analysis.value q.path q.line q.column q.name q.strings answer

-- Behind a line, over a source that has the analysis of the batch before it: there is a source that it leaves, with the analysis
-- of the batch behind it and with all edits made.
pub record LeavesSource (ws : WorkspaceValue) (q : LineValue) (plan : Plan) (old new : Batching) (before : Source) : Type 0 where
  pub now : Source
  pub leaves : Leaves plan before now
  pub keeps : KeepsSource ws q before now plan
  pub analysed : analysis_of now ws ≡ Ok new.analysis.value
  pub holds : (first : Source) → AreMade old.edits first before → AreMade new.edits first now

-- What a line makes of a batch, if this is its answer.
pub record Steps (ws : WorkspaceValue) (q : LineValue) (plan : Plan) (old new : Batching) : Type 0 where
  pub text_is : new.text.items ≡ old.text.items ++ plan_text plan
  pub refused_is : new.refused ≡ (old.refused || is_refused plan)
  pub edits_are : new.edits ≡ after plan old.edits
  -- so it is over all files that have the analysis, and behind the line these have the new one
  pub line : (files : FileMap) → AreOf ws old files → IsLine ws (with_edits old.edits files) q plan
  pub keeps : (files : FileMap) → AreOf ws old files → KeepsLine ws q (with_edits old.edits files) (with_edits new.edits files) plan
  pub goes_on : (files : FileMap) → AreOf ws old files → AreOf ws new files
  -- and over all sources that have it
  pub answered : IsAnswered old q plan
  pub source : (before : Source) → analysis_of before ws ≡ Ok old.analysis.value → LeavesSource ws q plan old new before

-- what is so over files that have the analysis of the beginning, behind lines with these answers
abbrev pub Behind : WorkspaceValue → List Edit → List LineValue → List Plan → Batching → FileMap → Type 0
Behind ws edits lines plans s files = IsBatch ws files edits lines plans × KeepsLines ws files edits lines plans × AreOf ws s files

-- the same of the source that these lines leave
pub record LeaveSource (ws : WorkspaceValue) (first : Batching) (lines : List LineValue) (plans : List Plan) (s : Batching) (before : Source) : Type 0 where
  pub now : Source
  pub keeps : KeepBetween ws lines plans before now
  pub analysed : analysis_of now ws ≡ Ok s.analysis.value
  pub holds : (origin : Source) → AreMade first.edits origin before → AreMade s.edits origin now

-- A batch behind these lines, from this beginning.
pub record RunTo (ws : WorkspaceValue) (first : Batching) (lines : List LineValue) (s : Batching) : Type 0 where
  pub plans : List Plan
  pub text : s.text.items ≡ first.text.items ++ flat_map plan_text plans
  pub refused : s.refused ≡ (first.refused || list_any is_refused plans)
  pub edits : s.edits ≡ after_each plans first.edits
  pub over : (files : FileMap) → AreOf ws first files → Behind ws first.edits lines plans s files
  pub source : (before : Source) → analysis_of before ws ≡ Ok first.analysis.value → LeaveSource ws first lines plans s before
