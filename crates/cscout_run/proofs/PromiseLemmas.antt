-- A run that goes on keeps its promise: from what was planned to the files once its edits are put.
use Rattle.std.proofs.Common.{◌≡◌, ℕ, List, [], Option, None, Some, Result, Ok, Err, ap, sym, subst}
use Rattle.std.specs.Prelude.{IfSome}
use Rattle.std.specs.Option.{option_map}
use Rattle.cs_base.specs.Edit.{Edit, with_edits}
use Rattle.cs_base.specs.Outside.{FileMap}
use Rattle.ws_file.specs.Workspace.{WorkspaceValue}
use Rattle.ws_file.specs.Reading.{WsFault}
use Rattle.analysis.specs.Below.source_files.Files.{source_of}
use Rattle.analysis.specs.Analysis.{AnalysisValue, analysis_of}
use Rattle.analysis.specs.Texts.{UnitFault}
use Rattle.offences.specs.declared.refusals.Refusal.{Refusal}
use Rattle.offences.specs.declared.refusals.Refusal.TheVariants as refusal
use Rattle.batch_run.specs.Batch.{refusal_line}
use Rattle.batch_run.specs.Line.{LineValue}
use Rattle.batch_run.proofs.KeepingLemmas.{workspace_is}
use Rattle.edited_files.proofs.MadeLemmas.{edits_are_made}
use Rattle.command_words.proofs.MessageLemmas.{message_there}
use Rattle.command_words.specs.Request.{AskValue, tokens_asked, skipped_asked, check_asked, report_asked, edit_asked, trim_asked, batch_asked, EditValue, RequestValue, help_asked, version_asked, generated_asked, asked_over, asked}
use Rattle.cscout_run.specs.declared.preparing.Ready.{Ready}
use Rattle.cscout_run.specs.declared.status.Status.TheVariants.{Refused, Workspace, ReadFault, Memory}
use Rattle.cscout_run.specs.declared.stops.Stop.{Stop}
use Rattle.cscout_run.specs.declared.stops.Stop.TheVariants as stop
use Rattle.cscout_run.specs.declared.stops.Why.{Why}
use Rattle.cscout_run.specs.declared.stops.Why.TheVariants as why
use Rattle.cscout_run.specs.Answer.{IsAnalysed, IsAskAnswer, IsBatchAnswer, IsLinesAnswer, IsOverWorkspace, IsRequestAnswer, batch_at, workspace_at}
use Rattle.cscout_run.specs.Asks.{Keeps}
use Rattle.cscout_run.specs.Promise.{HasLines, HasRun, KeepsAsk, KeepsOverFile, KeepsPromise, KeepsRefused}
use Rattle.cscout_run.specs.Shapes.{Answer, stopped}
use Rattle.cscout_run.specs.Steps.{IsPlanned, IsPlannedFor, LinesRun, Planned, Prepares}
use Rattle.cscout_run.specs.Stopping.{Stops, status_of, why_line}
use Rattle.cscout_run.proofs.RunLemmas.{if_told, if_told-map}
use Rattle.cscout_run.proofs.TrimLemmas.{trim_kept}

-- ---- a run that goes on

-- an edit
kept : (edit : EditValue) (ws : WorkspaceValue) (before : FileMap) (edits : List Edit) → Planned edit ws before edits
    → Keeps edit ws (source_of before) (source_of (with_edits edits before))
kept edit ws before edits p =
    let now : FileMap = with_edits edits before in
    let same : p.analysis.workspace ≡ ws = workspace_is (source_of before) ws p.analysis p.analysed in
    let analysed = subst (λ (w : WorkspaceValue). analysis_of (source_of before) w ≡ Ok p.analysis) (sym same) p.analysed in
    let keeps = p.keeps (source_of before) (source_of now) analysed (edits_are_made edits before p.sound) in
    subst (λ (w : WorkspaceValue). Keeps edit w (source_of before) (source_of now)) same keeps

-- a batch
has_run : (file : List ℕ) (ws : WorkspaceValue) (before : FileMap) (edits : List Edit) → LinesRun file ws before edits
    → HasRun file ws before (with_edits edits before)
has_run file ws before edits p = record {
  lines = p.lines;
  batch = p.batch;
  plans = p.plans;
  answers = p.answers;
  keeps = p.keeps;
  left = ap (λ (es : List Edit). with_edits es before) p.edits_are;
}

ask_kept : (ask : AskValue) (ws : WorkspaceValue) (before : FileMap) (edits : List Edit) → IsPlanned ask ws before edits
    → KeepsAsk ask ws before (with_edits edits before)
ask_kept (tokens_asked unit) ws before edits p = tt
ask_kept skipped_asked ws before edits p = tt
ask_kept check_asked ws before edits p = tt
ask_kept (report_asked report) ws before edits p = tt
ask_kept (edit_asked edit) ws before edits p = kept edit ws before edits p
ask_kept (trim_asked stays) ws before edits p = trim_kept ws before edits p
ask_kept (batch_asked file) ws before edits p = has_run file ws before edits p

promise_at : (request : RequestValue) (before : FileMap) (edits : List Edit) → IsPlannedFor request before edits
    → KeepsPromise (Some request) before (with_edits edits before)
promise_at help_asked before edits p = tt
promise_at version_asked before edits p = tt
promise_at (generated_asked n) before edits p = tt
promise_at (asked_over file ask) before edits p = record { ws = p.ws; workspace = p.workspace; keeps = ask_kept ask p.ws before edits p.planned }

-- the promise where a run is done is one where it is refused
refused_at : (request : RequestValue) (before now : FileMap) → KeepsPromise (Some request) before now → KeepsRefused (Some request) before now
refused_at help_asked before now p = tt
refused_at version_asked before now p = tt
refused_at (generated_asked n) before now p = tt
refused_at (asked_over file ask) before now p = λ lines. p

-- where the files held are told, the promise is kept
pub promise-told : (o now : Option FileMap) (request : RequestValue) (words : List (List ℕ)) (ready : Ready) → asked words ≡ Some request
    → IfSome o (λ fs. IsPlannedFor request fs ready.edits) → now ≡ option_map (with_edits ready.edits) o
    → IfSome o (λ before. IfSome now (KeepsPromise (asked words) before))
promise-told None now request words ready some p held = tt
promise-told (Some before) now request words ready some p held =
    rw held (subst (λ (r : Option RequestValue). KeepsPromise r before (with_edits ready.edits before)) (sym some) (promise_at request before ready.edits p))

pub refused-told : (o now : Option FileMap) (request : RequestValue) (words : List (List ℕ)) (ready : Ready) → asked words ≡ Some request
    → IfSome o (λ fs. IsPlannedFor request fs ready.edits) → now ≡ option_map (with_edits ready.edits) o
    → IfSome o (λ before. IfSome now (KeepsRefused (asked words) before))
refused-told None now request words ready some p held = tt
refused-told (Some before) now request words ready some p held =
    let behind : FileMap = with_edits ready.edits before in
    rw held (subst (λ (r : Option RequestValue). KeepsRefused r before behind) (sym some) (refused_at request before behind (promise_at request before ready.edits p)))

-- ---- a run that stops

not_refused : Workspace ≡ Refused → ⊥
not_refused e = cc

not_read : ReadFault ≡ Refused → ⊥
not_read e = cc

not_memory : Memory ≡ Refused → ⊥
not_memory e = cc

-- a batch whose file has no bad line is not refused by a message
refused-lines : (fs : FileMap) (w : WorkspaceValue) (lines : List LineValue) (line : List ℕ) (analysed : Result AnalysisValue UnitFault)
    → IsAnalysed (IsLinesAnswer fs w lines) analysed (stopped Refused line) → line ≡ []
refused-lines fs w lines line (Ok value) p = sym (ap (λ (a : Answer). a.err) p.2)
refused-lines fs w lines line (Err fault) p = absurd (not_refused (ap (λ (a : Answer). a.status) p))

refused-ws : (fs : FileMap) (path file : List ℕ) (lines : List LineValue) (line : List ℕ) (read : Option (Result WorkspaceValue WsFault))
    → batch_at file fs ≡ Some (Ok lines) → IsOverWorkspace path (IsAskAnswer fs (batch_asked file)) read (stopped Refused line) → line ≡ []
refused-ws fs path file lines line None batch p = absurd (not_refused (ap (λ (a : Answer). a.status) p))
refused-ws fs path file lines line (Some (Err fault)) batch p = absurd (not_refused (ap (λ (a : Answer). a.status) p))
refused-ws fs path file lines line (Some (Ok w)) batch p =
    refused-lines fs w lines line (analysis_of (source_of fs) w)
    (subst (λ (r : Option (Result (List LineValue) ℕ)). IsBatchAnswer fs w r (stopped Refused line)) batch p)

-- a refusal tells something
refusal_there : (r : Refusal) → refusal_line r ≡ [] → ⊥
refusal_there refusal.BadName e = message_there _ e
refusal_there refusal.NoName e = message_there _ e
refusal_there refusal.NotAFunction e = message_there _ e
refusal_there refusal.NotAMacro e = message_there _ e
refusal_there refusal.BadOrder e = message_there _ e
refusal_there (refusal.Offence place cause) e = message_there _ e

why_there : (reason : Why) → why_line reason ≡ [] → ⊥
why_there why.NoUnit e = message_there _ e
why_there (why.BadBatch line) e = message_there _ e
why_there (why.BadQuery at) e = message_there _ e
why_there (why.DeepQuery at) e = message_there _ e
why_there (why.Refusal r) e = refusal_there r e

-- an early end that refuses is not one of a batch whose file has no bad line
refused-batch : (fs : FileMap) (path file ws : List ℕ) (lines : List LineValue) (end : Stop) → batch_at file fs ≡ Some (Ok lines)
    → status_of end ≡ Refused → Stops ws (IsRequestAnswer fs (asked_over path (batch_asked file))) end → ⊥
refused-batch fs path file ws lines (stop.Workspace fault) batch is p = not_refused is
refused-batch fs path file ws lines (stop.Unread unread) batch is p = not_read is
refused-batch fs path file ws lines (stop.Refused reason) batch is p =
    why_there reason (refused-ws fs path file lines (why_line reason) (workspace_at path fs) batch p)
refused-batch fs path file ws lines stop.Memory batch is p = not_memory is

refused-ask : (fs : FileMap) (path ws : List ℕ) (ask : AskValue) (end : Stop) → HasLines ask fs → status_of end ≡ Refused
    → Stops ws (IsRequestAnswer fs (asked_over path ask)) end → ⊥
refused-ask fs path ws (tokens_asked unit) end lines is p = lines
refused-ask fs path ws skipped_asked end lines is p = lines
refused-ask fs path ws check_asked end lines is p = lines
refused-ask fs path ws (report_asked report) end lines is p = lines
refused-ask fs path ws (edit_asked edit) end lines is p = lines
refused-ask fs path ws (trim_asked stays) end lines is p = lines
refused-ask fs path ws (batch_asked file) end lines is p = refused-batch fs path file ws lines.0 end lines.1 is p

stopped_at : (request : RequestValue) (ws : List ℕ) (before now : FileMap) (end : Stop) → Stops ws (IsRequestAnswer before request) end
    → status_of end ≡ Refused → KeepsRefused (Some request) before now
stopped_at help_asked ws before now end stops is = tt
stopped_at version_asked ws before now end stops is = tt
stopped_at (generated_asked n) ws before now end stops is = tt
stopped_at (asked_over path ask) ws before now end stops is = λ lines. absurd (refused-ask before path ws ask end lines is stops)

pub refused-stopped : (o now : Option FileMap) (request : RequestValue) (words : List (List ℕ)) (ws : List ℕ) (end : Stop) → asked words ≡ Some request
    → IfSome o (λ fs. Prepares ws (IsRequestAnswer fs request) (Err end)) → status_of end ≡ Refused
    → IfSome o (λ before. IfSome now (KeepsRefused (asked words) before))
refused-stopped o now request words ws end some stops is =
    if_told-map o _ _ stops
    (λ before h. if_told now (KeepsRefused (asked words) before)
    (λ behind. subst (λ (r : Option RequestValue). KeepsRefused r before behind) (sym some) (stopped_at request ws before behind end h is)))
