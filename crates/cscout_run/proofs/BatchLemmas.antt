-- A batch: from its files to the answer, and what stands ready of it.
use Rattle.std.proofs.Common.{◌≡◌, ℕ, List, [], Option, None, Some, Result, Ok, Err, refl, sym, subst, ◌∙◌}
use Rattle.std.specs.Prelude.{IfSome, IsErrAnd}
use Rattle.std.proofs.lemmas.Option.{none-some}
use Rattle.cs_base.specs.Outside.{FileMap}
use Rattle.batch_run.specs.Line.{LineValue}
use Rattle.batch_run.specs.declared.running.Batched.{Batched}
use Rattle.batch_run.specs.Running.{Runs}
use Rattle.ws_file.specs.Workspace.{WorkspaceValue}
use Rattle.analysis.specs.Below.source_files.Files.{source_of}
use Rattle.analysis.specs.Analysis.{AnalysisValue, analysis_of}
use Rattle.analysis.specs.Texts.{UnitFault}
use Rattle.analysis.specs.declared.analyse_fault.AnalyseFault.{AnalyseFault}
use Rattle.command_words.specs.Request.{batch_asked}
use Rattle.cscout_run.specs.declared.preparing.Ready.{Ready}
use Rattle.cscout_run.specs.declared.stops.Stop.{Stop}
use Rattle.cscout_run.specs.Answer.{IsAnalysed, IsAskAnswer, IsBatchAnswer, IsLinesAnswer, batch_at, lines_answer}
use Rattle.cscout_run.specs.Shapes.{Answer}
use Rattle.cscout_run.specs.Steps.{Answers, LinesRun, no_analysis, no_lines, ready_answer, stop_of}
use Rattle.cscout_run.specs.Stopping.{Stops}
use Rattle.cscout_run.proofs.OverLemmas.{fault-stops, handed_on, none-analysed}
use Rattle.cscout_run.proofs.RunLemmas.{if_told-map, stops-map}

-- what is an answer to the lines is one to the batch
over_lines : (fs : FileMap) (file : List ℕ) (w : WorkspaceValue) (lines : List LineValue) (a : Answer) → batch_at file fs ≡ Some (Ok lines)
    → IsAnalysed (IsLinesAnswer fs w lines) (analysis_of (source_of fs) w) a → IsAskAnswer fs (batch_asked file) w a
over_lines fs file w lines a batch p = subst (λ (r : Option (Result (List LineValue) ℕ)). IsBatchAnswer fs w r a) (sym batch) p

-- ---- what is read

-- The files hold these lines, and they were run so.
pub record Found (file : List ℕ) (w : WorkspaceValue) (lines : List LineValue) (result : Result Batched AnalyseFault) (fs : FileMap) : Type 0 where
  pub batch : batch_at file fs ≡ Some (Ok lines)
  pub runs : Runs w fs lines result

-- reads change nothing
pub found : (o behind : Option FileMap) (file : List ℕ) (w : WorkspaceValue) (lines given : List LineValue) (result : Result Batched AnalyseFault)
    → given ≡ lines → behind ≡ o → IfSome o (λ fs. batch_at file fs ≡ Some (Ok lines)) → IfSome behind (λ fs. Runs w fs given result)
    → IfSome o (Found file w lines result)
found None behind file w lines given result is same batch runs = tt
found (Some fs) behind file w lines given result is same batch runs = record {
  batch = batch;
  runs = subst (λ (ls : List LineValue). Runs w fs ls result) is (subst (λ (o : Option FileMap). IfSome o (λ held. Runs w held given result)) same runs);
}

none-told : (fs : FileMap) (w : WorkspaceValue) (read : Option (Result (List LineValue) ℕ)) (a : Answer) → no_lines read ≡ Some a
    → IsBatchAnswer fs w read a
none-told fs w None a is = cc
none-told fs w (Some (Ok lines)) a is = absurd (none-some a is)
none-told fs w (Some (Err line)) a is = cc

-- an early end where the batch file is read
pub lines-stop : (o : Option FileMap) (file : List ℕ) (w : WorkspaceValue) (end : Stop) (result : Result Ready Stop) → IsErrAnd result (λ e. e ≡ end)
    → IfSome o (λ fs. (ws : List ℕ) → Stops ws (λ a. no_lines (batch_at file fs) ≡ Some a) end)
    → IfSome o (λ fs. Answers (IsAskAnswer fs (batch_asked file) w) result)
lines-stop o file w end result same p =
    if_told-map o _ _ p
    (λ fs h.
    handed_on (IsAskAnswer fs (batch_asked file) w) end result same
    (λ ws. stops-map ws (λ a. no_lines (batch_at file fs) ≡ Some a) (IsAskAnswer fs (batch_asked file) w) end (none-told fs w (batch_at file fs)) (h ws)))

-- ---- what is run

pub ready-run : (file : List ℕ) (w : WorkspaceValue) (lines : List LineValue) (b : Batched) (ready : Ready) (fs : FileMap)
    → Found file w lines (Ok b) fs → ready.edits ≡ b.edits → ready.text ≡ b.text → ready.refused ≡ b.refused
    → Answers (IsAskAnswer fs (batch_asked file) w) (Ok ready)
ready-run file w lines b ready fs f edits text refused =
    let run = f.runs.1 in
    let same : lines_answer f.runs.0 ≡ ready_answer ready = rw (refused, text, edits, run.refused, run.text, run.edits) refl in
    λ ws. over_lines fs file w lines (ready_answer ready) f.batch
    (subst (λ (r : Result AnalysisValue UnitFault). IsAnalysed (IsLinesAnswer fs w lines) r (ready_answer ready)) (sym run.analysed.1)
    (f.runs.0, run.answers, same))

pub lines_run : (file : List ℕ) (w : WorkspaceValue) (lines : List LineValue) (b : Batched) (ready : Ready) (fs : FileMap)
    → Found file w lines (Ok b) fs → ready.edits ≡ b.edits → LinesRun file w fs ready.edits
lines_run file w lines b ready fs f edits =
    let run = f.runs.1 in
    record {
      lines = lines;
      plans = f.runs.0;
      batch = f.batch;
      answers = run.answers;
      keeps = run.keeps;
      edits_are = edits ∙ run.edits;
    }

-- a unit is not accepted
pub run-stop : (file : List ℕ) (w : WorkspaceValue) (lines : List LineValue) (f : AnalyseFault) (end : Stop) (fs : FileMap) → end ≡ stop_of f
    → Found file w lines (Err f) fs → Answers (IsAskAnswer fs (batch_asked file) w) (Err end)
run-stop file w lines f end fs is found =
    let analysed = analysis_of (source_of fs) w in
    λ ws. stops-map ws (λ a. no_analysis analysed ≡ Some a) (IsAskAnswer fs (batch_asked file) w) end
    (λ a h. over_lines fs file w lines a found.batch (none-analysed (IsLinesAnswer fs w lines) analysed a h)) (fault-stops ws f end analysed is found.runs)
