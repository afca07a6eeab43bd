-- The answer to a trim over an analysis, that it is one, and what its edits keep.
use Rattle.std.proofs.Common.{◌≡◌, ◌∙◌, ℕ, Bool, false, List, Option, None, Some, Result, Ok, Err, ap, refl, subst, sym, ◌++◌}
use Rattle.std.specs.Prelude.{IfOk, IfSome}
use Rattle.cs_base.specs.Edit.{Edit, IsKept, with_edits}
use Rattle.cs_base.specs.Outside.{FileMap}
use Rattle.ws_file.specs.Workspace.{WorkspaceValue}
use Rattle.analysis.specs.Below.source_files.Files.{source_of}
use Rattle.analysis.specs.Analysis.{AnalysisValue, analysis_of}
use Rattle.batch_run.proofs.KeepingLemmas.{workspace_is}
use Rattle.edited_files.proofs.MadeLemmas.{edits_are_made}
use Rattle.trim_plan.specs.Kept.{IsTrimmed, KeepsRest, KeepsRestOver}
use Rattle.trim_plan.specs.Stays.{IsTold}
use Rattle.trim_plan.proofs.ToldLemmas.{told_once}
use Rattle.command_words.specs.Message.{edited_lines}
use Rattle.cscout_run.specs.declared.preparing.Ready.{Ready}
use Rattle.cscout_run.specs.declared.stops.Stop.{Stop}
use Rattle.cscout_run.specs.Shapes.{Answer}
use Rattle.cscout_run.specs.Steps.{ready_answer}
use Rattle.cscout_run.specs.Trims.{IsTrimAnswer, TrimPlanned, asked_lines, trim_answer}
use Rattle.cscout_run.proofs.AlikeLemmas.{one_unneeded}
use Rattle.cscout_run.proofs.LineLemmas.{same-answer}

-- what stands ready is an answer
pub trim_answers : (asked : Bool) (value : AnalysisValue) (ready : Ready) (stays : List ℕ) → IsTold value ready.edits stays
    → ready.text.items ≡ edited_lines ready.edits ++ asked_lines asked stays → ready.refused ≡ false → IsTrimAnswer asked value (ready_answer ready)
trim_answers asked value ready stays told lines refused = (ready.edits, stays, told, rw (lines, refused) refl)

-- two answers are one
pub trim_once : (asked : Bool) (value : AnalysisValue) (a b : Answer) → IsTrimAnswer asked value a → IsTrimAnswer asked value b → a ≡ b
trim_once asked value a b p q =
    let one = told_once value p.0 q.0 p.1 q.1 (one_unneeded value) p.2 q.2 in
    same-answer (trim_answer asked p.0 p.1) a b p.3
    (ap (λ (edits : List Edit). trim_answer asked edits p.1) one.0 ∙ (ap (λ (stays : List ℕ). trim_answer asked q.0 stays) one.1 ∙ q.3))

-- edits over the analysis of a workspace are planned
pub trim_planned : (o : Option FileMap) (w : WorkspaceValue) (value : AnalysisValue) (result : Result Ready Stop)
    → IfSome o (λ fs. analysis_of (source_of fs) w ≡ Ok value) → IfOk result (λ ready. KeepsRestOver value ready.edits)
    → IfOk result (λ ready. IsKept ready.edits) → IfSome o (λ fs. IfOk result (λ ready. TrimPlanned w fs ready.edits))
trim_planned None w value result analysed keeps sound = tt
trim_planned (Some fs) w value (Err end) analysed keeps sound = tt
trim_planned (Some fs) w value (Ok ready) analysed keeps sound = record { analysis = value; analysed = analysed; keeps = keeps; sound = sound }

-- once they are put, the trim is done
pub trim_kept : (ws : WorkspaceValue) (before : FileMap) (edits : List Edit) → TrimPlanned ws before edits
    → IsTrimmed ws (source_of before) (source_of (with_edits edits before))
trim_kept ws before edits p =
    let now : FileMap = with_edits edits before in
    let same : p.analysis.workspace ≡ ws = workspace_is (source_of before) ws p.analysis p.analysed in
    let analysed = subst (λ (w : WorkspaceValue). analysis_of (source_of before) w ≡ Ok p.analysis) (sym same) p.analysed in
    let keeps = p.keeps.over.kept (source_of before) (source_of now) analysed (edits_are_made edits before p.sound) in
    record {
      analysis = p.analysis;
      analysed = p.analysed;
      lines = p.keeps.lines;
      removable = p.keeps.removable;
      keeps = subst (λ (w : WorkspaceValue). KeepsRest w p.analysis p.keeps.lines (source_of before) (source_of now)) same keeps;
    }
