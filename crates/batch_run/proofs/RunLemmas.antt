-- A batch behind some of its lines.
use Rattle.std.proofs.Common.{◌≡◌, ◌++◌, ℕ, Bool, false, ◌||◌, List, [], ◌∷◌, Ok, refl, ap, sym, subst, ◌∙◌, append_assoc}
use Rattle.std.specs.List.{flat_map, list_any}
use Rattle.cs_base.specs.Edit.{Edit, IsKept, with_edits}
use Rattle.cs_base.specs.Outside.{FileMap}
use Rattle.cs_base.proofs.BoolLemmas.{or_assoc, or-false as or_false}
use Rattle.batch_run.specs.Line.{LineValue}
use Rattle.ws_file.specs.Workspace.{WorkspaceValue}
use Rattle.analysis.specs.Below.source_files.Files.{Source, source_of}
use Rattle.analysis.specs.Below.source_files.Tables.{AreFound, HasEachOnce}
use Rattle.analysis.proofs.Below.source_files.AgreeLemmas.{some_source}
use Rattle.analysis.specs.Analysis.{AnalysisValue, analysis_of}
use Rattle.batch_run.specs.declared.stepping.Batching.{Batching}
use Rattle.batch_run.specs.Batch.{Plan, IsAnswer, IsLine, IsBatch, after, after_each, plan_text, is_refused}
use Rattle.batch_run.specs.Keeping.{KeepsLine, KeepsLines, KeepsSource, KeepBetween, Leaves}
use Rattle.batch_run.specs.Stepping.{IsReady, LeaveSource, LeavesSource, RunTo, Steps}
use Rattle.batch_run.specs.declared.running.Batched.{Batched}
use Rattle.batch_run.specs.Running.{IsRunOver}
use Rattle.edited_files.specs.Edited.{AreMade}
use Rattle.batch_run.proofs.SourceLemmas.{made_once, none_made}
use Rattle.batch_run.proofs.SettledAnalyses.{analysis_settles, kept_agree, kept_files}

-- ---- the last of some lines

append_none : {X : Type 0} (xs : List X) → xs ++ [] ≡ xs
append_none [] = refl
append_none {X} (x ∷ xs) = ap (λ (ys : List X). x ∷ ys) (append_none xs)

text_last : (plans : List Plan) (plan : Plan) → flat_map plan_text (plans ++ plan ∷ []) ≡ flat_map plan_text plans ++ plan_text plan
text_last [] plan = append_none (plan_text plan)
text_last (p ∷ plans) plan =
    ap (λ (ys : List ℕ). plan_text p ++ ys) (text_last plans plan) ∙ sym (append_assoc (plan_text p) (flat_map plan_text plans) (plan_text plan))

refused_last : (plans : List Plan) (plan : Plan) → list_any is_refused (plans ++ plan ∷ []) ≡ (list_any is_refused plans || is_refused plan)
refused_last [] plan = or_false (is_refused plan)
refused_last (p ∷ plans) plan =
    ap (λ (b : Bool). is_refused p || b) (refused_last plans plan) ∙ or_assoc (is_refused p) (list_any is_refused plans) (is_refused plan)

edits_last : (plans : List Plan) (plan : Plan) (edits : List Edit) → after_each (plans ++ plan ∷ []) edits ≡ after plan (after_each plans edits)
edits_last [] plan edits = refl
edits_last (p ∷ plans) plan edits = edits_last plans plan (after p edits)

batch_last : (ws : WorkspaceValue) (files : FileMap) (edits : List Edit) (lines : List LineValue) (plans : List Plan) (q : LineValue) (plan : Plan)
    → IsBatch ws files edits lines plans → IsLine ws (with_edits (after_each plans edits) files) q plan → IsBatch ws files edits (lines ++ q ∷ []) (plans ++ plan ∷ [])
batch_last ws files edits [] [] q plan batch line = (line, tt)
batch_last ws files edits (l ∷ lines) (p ∷ plans) q plan batch line = (batch.0, batch_last ws files (after p edits) lines plans q plan batch.1 line)
batch_last ws files edits [] (p ∷ plans) q plan batch line = absurd batch
batch_last ws files edits (l ∷ lines) [] q plan batch line = absurd batch

keeps_last : (ws : WorkspaceValue) (files : FileMap) (edits : List Edit) (lines : List LineValue) (plans : List Plan) (q : LineValue) (plan : Plan)
    → IsBatch ws files edits lines plans → KeepsLines ws files edits lines plans
    → KeepsLine ws q (with_edits (after_each plans edits) files) (with_edits (after plan (after_each plans edits)) files) plan
    → KeepsLines ws files edits (lines ++ q ∷ []) (plans ++ plan ∷ [])
keeps_last ws files edits [] [] q plan batch keeps line = (line, tt)
keeps_last ws files edits (l ∷ lines) (p ∷ plans) q plan batch keeps line = (keeps.0, keeps_last ws files (after p edits) lines plans q plan batch.1 keeps.1 line)
keeps_last ws files edits [] (p ∷ plans) q plan batch keeps line = absurd batch
keeps_last ws files edits (l ∷ lines) [] q plan batch keeps line = absurd batch

-- the source that the last line finds is the one that those before it leave
between_last : (ws : WorkspaceValue) (lines : List LineValue) (plans : List Plan) (q : LineValue) (plan : Plan) (before mid now : Source) → KeepBetween ws lines plans before mid
    → IsAnswer ws mid q plan → Leaves plan mid now → KeepsSource ws q mid now plan → KeepBetween ws (lines ++ q ∷ []) (plans ++ plan ∷ []) before now
between_last ws [] [] q plan before mid now keep answered leaves keeps =
    subst (λ (s : Source). KeepBetween ws (q ∷ []) (plan ∷ []) s now) keep
    (record { answered = answered; now = now; leaves = leaves; keeps = keeps; then_ = refl })
between_last ws (l ∷ lines) (p ∷ plans) q plan before mid now keep answered leaves keeps = record {
  answered = keep.answered;
  now = keep.now;
  leaves = keep.leaves;
  keeps = keep.keeps;
  then_ = between_last ws lines plans q plan keep.now mid now keep.then_ answered leaves keeps;
}
between_last ws [] (p ∷ plans) q plan before mid now keep answered leaves keeps = absurd keep
between_last ws (l ∷ lines) [] q plan before mid now keep answered leaves keeps = absurd keep

-- ---- a batch behind some lines

-- none yet
pub run_none : (ws : WorkspaceValue) (s : Batching) → RunTo ws s [] s
run_none ws s = record {
  plans = [];
  text = sym (append_none s.text.items);
  refused = sym (or_false s.refused);
  edits = refl;
  over = λ files over. (tt, tt, over);
  source = λ before analysed. record { now = before; keeps = refl; analysed = analysed; holds = λ origin earlier. earlier };
}

-- it can go on
pub run_ready : (ws : WorkspaceValue) (first s : Batching) (lines : List LineValue) → IsReady ws first → RunTo ws first lines s → IsReady ws s
run_ready ws first s lines ready r = (ready.0, (r.over ready.0 ready.1).2)

-- one line more
pub run_more : (ws : WorkspaceValue) (first s t : Batching) (lines : List LineValue) (q : LineValue) (plan : Plan) → RunTo ws first lines s
    → Steps ws q plan s t → RunTo ws first (lines ++ q ∷ []) t
run_more ws first s t lines q plan r step = record {
  plans = r.plans ++ plan ∷ [];
  text = step.text_is ∙ ap (λ (xs : List ℕ). xs ++ plan_text plan) r.text ∙ append_assoc first.text.items (flat_map plan_text r.plans) (plan_text plan)
      ∙ ap (λ (xs : List ℕ). first.text.items ++ xs) (sym (text_last r.plans plan));
  refused = step.refused_is ∙ ap (λ (b : Bool). b || is_refused plan) r.refused ∙ sym (or_assoc first.refused (list_any is_refused r.plans) (is_refused plan))
      ∙ ap (λ (b : Bool). first.refused || b) (sym (refused_last r.plans plan));
  edits = step.edits_are ∙ ap (after plan) r.edits ∙ sym (edits_last r.plans plan first.edits);
  over = λ files over.
      let behind = r.over files over in
      let line : IsLine ws (with_edits (after_each r.plans first.edits) files) q plan =
      subst (λ (es : List Edit). IsLine ws (with_edits es files) q plan) r.edits (step.line files behind.2) in
      let kept_so : KeepsLine ws q (with_edits (after_each r.plans first.edits) files) (with_edits (after plan (after_each r.plans first.edits)) files) plan =
      subst (λ (es : List Edit). KeepsLine ws q (with_edits es files) (with_edits (after plan es) files) plan) r.edits
      (subst (λ (es : List Edit). KeepsLine ws q (with_edits s.edits files) (with_edits es files) plan) step.edits_are (step.keeps files behind.2)) in (
        batch_last ws files first.edits lines r.plans q plan behind.0 line,
        keeps_last ws files first.edits lines r.plans q plan behind.0 behind.1 kept_so,
        step.goes_on files behind.2,
      );
  source = λ before analysed.
      let to : LeaveSource ws first lines r.plans s before = r.source before analysed in
      let u : LeavesSource ws q plan s t to.now = step.source to.now to.analysed in
      record {
        now = u.now;
        keeps = between_last ws lines r.plans q plan before to.now u.now to.keeps (s.analysis.value, to.analysed, step.answered) u.leaves u.keeps;
        analysed = u.analysed;
        holds = λ origin earlier. u.holds origin (to.holds origin earlier);
      };
}

-- ---- its beginning and its end

-- the kept files have the analysis
pub kept_over : (ws : WorkspaceValue) (a : AnalysisValue) → HasEachOnce a.table → ((source : Source) → AreFound source a.table → analysis_of source ws ≡ Ok a)
    → analysis_of (source_of (kept_files a.table)) ws ≡ Ok a
kept_over ws a once over =
    let some = some_source a.table once in
    over (source_of (kept_files a.table)) (kept_agree a.table once (analysis_settles some.0 ws a (over some.0 some.1)))

-- so a batch without edits can begin
pub run_first : (ws : WorkspaceValue) (s : Batching) → HasEachOnce s.analysis.value.table
    → ((source : Source) → AreFound source s.analysis.value.table → analysis_of source ws ≡ Ok s.analysis.value) → s.edits ≡ [] → IsReady ws s
run_first ws s once over none = (
  kept_files s.analysis.value.table,
  subst (λ (es : List Edit). analysis_of (source_of (with_edits es (kept_files s.analysis.value.table))) ws ≡ Ok s.analysis.value) (sym none)
      (kept_over ws s.analysis.value once over),
)

-- a batch that began without edits, over each source that has its analysis
pub run_over : (ws : WorkspaceValue) (first s : Batching) (lines : List LineValue) (b : Batched) (r : RunTo ws first lines s) → first.edits ≡ [] → first.text.items ≡ []
    → first.refused ≡ false → b.text.items ≡ s.text.items → b.refused ≡ s.refused → b.edits ≡ s.edits → IsKept b.edits
    → (source : Source) → analysis_of source ws ≡ Ok first.analysis.value → IsRunOver ws lines b r.plans source
run_over ws first s lines b r none empty accepted text refused edits sound source analysed =
    let to : LeaveSource ws first lines r.plans s source = r.source source analysed in
    let begun : AreMade first.edits source source = subst (λ (es : List Edit). AreMade es source source) (sym none) (none_made source) in
    record {
      analysed = (first.analysis.value, analysed);
      meaning = λ now made.
          let same : to.now ≡ now = made_once s.edits source to.now now (to.holds source begun) (subst (λ (es : List Edit). AreMade es source now) edits made) in
          subst (λ (end : Source). KeepBetween ws lines r.plans source end) same to.keeps;
      text = text ∙ r.text ∙ ap (λ (xs : List ℕ). xs ++ flat_map plan_text r.plans) empty;
      refused = refused ∙ r.refused ∙ ap (λ (x : Bool). x || list_any is_refused r.plans) accepted;
      edits = edits ∙ r.edits ∙ ap (after_each r.plans) none;
      sound = sound;
    }
