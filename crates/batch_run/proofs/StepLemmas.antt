-- One line of a batch: what it leaves, over all files that have its analysis.
use Rattle.std.proofs.Common.{◌≡◌, ◌++◌, Bool, true, false, ◌||◌, List, Some, Ok, Err, refl, ap, sym, subst, ◌∙◌}
use Rattle.cs_base.specs.declared.positions.Part.{Part}
use Rattle.cs_base.specs.Edit.{Edit, with_edits, IsKept}
use Rattle.cs_base.specs.Outside.{FileMap}
use Rattle.cs_base.proofs.BoolLemmas.{or_false}
use Rattle.batch_run.specs.Line.{LineValue}
use Rattle.edited_files.specs.Edited.{AreMade, with_each}
use Rattle.edited_files.proofs.PutLemmas.{put_each}
use Rattle.edited_files.proofs.MadeLemmas.{put_is_made}
use Rattle.batch_run.proofs.SourceLemmas.{made, made_each, made_is_made}
use Rattle.ws_file.specs.Workspace.{WorkspaceValue}
use Rattle.analysis.specs.Below.source_files.Files.{source_of}
use Rattle.analysis.specs.Analysis.{AnalysisValue, analysis_of}
use Rattle.analysis.specs.Naming.{Names}
use Rattle.kept_analysis.specs.Following.{IsRenamedIn}
use Rattle.renamed.specs.Rename.{RenamesOver}
use Rattle.offences.specs.declared.refusals.Refusal.{Refusal}
use Rattle.batch_run.specs.declared.stepping.Batching.{Batching}
use Rattle.batch_run.specs.Batch.{Plan, plan_text}
use Rattle.batch_run.specs.Keeping.{KeepsLine}
use Rattle.batch_run.specs.Standing.{StandingValue}
use Rattle.batch_run.specs.Stepping.{IsOver, IsAnswered, Steps}
use Rattle.rename_rules.specs.Renaming.{IsRenaming}
use Rattle.batch_run.proofs.KeepingLemmas.{line_is_kept, analysis_goes_on}

or_true : (b : Bool) → true ≡ (b || true)
or_true true = refl
or_true false = refl

-- an accepted line
pub accepted_steps : (ws : WorkspaceValue) (q : LineValue) (new : List Edit) (part : Part) (old s : Batching)
    → RenamesOver old.analysis.value.workspace old.analysis.value q.path q.line q.column q.name q.strings new → IsAnswered old q (Ok new) → IsKept new → IsKept old.edits
    → Names old.analysis.value q.path q.line q.column (Some part) → IsRenamedIn old.analysis.value part q.name s.analysis.value
    → s.text.items ≡ old.text.items ++ plan_text (Ok new) → s.refused ≡ old.refused → s.edits ≡ with_each new old.edits
    → Steps ws q (Ok new) old s
accepted_steps ws q new part old s renames answered sound sound' named follows text_is refused_is edits_are =
    let a : AnalysisValue = old.analysis.value in
    let put = λ (files : FileMap).
    put_is_made new (with_edits old.edits files) (with_edits (with_each new old.edits) files) (put_each new old.edits files sound.sorted sound'.sorted) in
    record {
      text_is = text_is;
      refused_is = refused_is ∙ or_false old.refused;
      edits_are = edits_are;
      line = λ files over. (a, over, answered);
      keeps = λ files over.
          subst (λ (es : List Edit). KeepsLine ws q (with_edits old.edits files) (with_edits es files) (Ok new)) (sym edits_are)
          (line_is_kept ws q a new renames (source_of (with_edits old.edits files)) (source_of (with_edits (with_each new old.edits) files)) over (put files));
      goes_on = λ files over.
          subst (λ (es : List Edit). IsOver ws files es s.analysis.value) (sym edits_are)
          (analysis_goes_on ws q a new renames (source_of (with_edits old.edits files)) (source_of (with_edits (with_each new old.edits) files)) over (put files)
          part s.analysis.value named follows);
      answered = answered;
      source = λ before analysed.
          let edited : AreMade new before (made new before) = made_is_made new before sound.sorted in
          record {
            now = made new before;
            leaves = edited;
            keeps = line_is_kept ws q a new renames before (made new before) analysed edited;
            analysed = analysis_goes_on ws q a new renames before (made new before) analysed edited part s.analysis.value named follows;
            holds = λ first earlier.
                subst (λ (es : List Edit). AreMade es first (made new before)) (sym edits_are)
                (made_each new old.edits first before (made new before) sound.sorted sound'.sorted earlier edited);
          };
    }

-- a refused line
pub refused_steps : (ws : WorkspaceValue) (q : LineValue) (refusal : Refusal) (old s : Batching) → IsAnswered old q (Err refusal)
    → s.text.items ≡ old.text.items ++ plan_text (Err refusal) → s.refused ≡ true → s.edits ≡ old.edits → s.analysis.value ≡ old.analysis.value
    → Steps ws q (Err refusal) old s
refused_steps ws q refusal old s answered text_is refused_is edits_are stays = record {
  text_is = text_is;
  refused_is = refused_is ∙ or_true old.refused;
  edits_are = edits_are;
  line = λ files over. (old.analysis.value, over, answered);
  keeps = λ files over. tt;
  goes_on = λ files over.
      subst (λ (es : List Edit). IsOver ws files es s.analysis.value) (sym edits_are)
      (subst (λ (b : AnalysisValue). IsOver ws files old.edits b) (sym stays) over);
  answered = answered;
  source = λ before analysed. record {
    now = before;
    leaves = refl;
    keeps = tt;
    analysed = subst (λ (b : AnalysisValue). analysis_of before ws ≡ Ok b) (sym stays) analysed;
    holds = λ first earlier. subst (λ (es : List Edit). AreMade es first before) (sym edits_are) earlier;
  };
}

-- a line where the analysis was made before it was asked
pub settled_steps : (ws : WorkspaceValue) (q : LineValue) (plan : Plan) (old s : Batching) (v : StandingValue) → v.value ≡ old.analysis.value
    → Steps ws q plan (record old { analysis = v }) s → Steps ws q plan old s
settled_steps ws q plan old s v same r =
    let back : Ok old.analysis.value ≡ Ok v.value = ap (λ (a : AnalysisValue). Ok a) (sym same) in
    record {
      text_is = r.text_is;
      refused_is = r.refused_is;
      edits_are = r.edits_are;
      line = λ files over. r.line files (over ∙ back);
      keeps = λ files over. r.keeps files (over ∙ back);
      goes_on = λ files over. r.goes_on files (over ∙ back);
      answered = subst (λ (a : AnalysisValue). IsRenaming a q.path q.line q.column q.name q.strings plan) same r.answered;
      source = λ before analysed.
          let l = r.source before (analysed ∙ back) in
          record { now = l.now; leaves = l.leaves; keeps = l.keeps; analysed = l.analysed; holds = l.holds };
    }
