-- A check of the units: what stands ready is its answer, and an early end tells of the read that failed.
use Rattle.std.proofs.Common.{◌≡◌, Bool, List, [], ℕ, Option, Some, None, Ok, Err, refl, subst, sym, ap, ◌∙◌}
use Rattle.std.specs.Prelude.{IfSome}
use Rattle.cs_base.specs.Outside.{FileMap, FilesTold, ReadEnd, ReadsOnly}
use Rattle.ws_file.specs.Workspace.{WorkspaceValue}
use Rattle.unit_checks.specs.declared.check_fault.CheckFault.{CheckFault}
use Rattle.unit_checks.specs.declared.check_fault.CheckFault.TheVariants as checked
use Rattle.unit_checks.specs.Answers.{OverHeld, fault_reads}
use Rattle.unit_checks.specs.Checked.{check_text, some_refused}
use Rattle.command_words.specs.Request.{check_asked}
use Rattle.cscout_run.specs.declared.preparing.Ready.{Ready}
use Rattle.cscout_run.specs.declared.stops.Stop.{Stop}
use Rattle.cscout_run.specs.Answer.{IsAskAnswer, check_answer}
use Rattle.cscout_run.specs.Shapes.{Answer}
use Rattle.cscout_run.specs.Steps.{Answers, check_stop, ready_answer}
use Rattle.cscout_run.specs.Stopping.{Stops, stop_reads}
use Rattle.cscout_run.proofs.RunLemmas.{if_told}

pub check-ok : (o : Option FileMap) (w : WorkspaceValue) (text : List ℕ) (refused : Bool) (ready : Ready) → OverHeld o (λ source. text ≡ check_text source w)
    → OverHeld o (λ source. refused ≡ some_refused source w) → ready.edits ≡ [] → ready.text.items ≡ text → ready.refused ≡ refused
    → IfSome o (λ fs. Answers (IsAskAnswer fs check_asked w) (Ok ready))
check-ok None w text refused ready told refuses edits is same = tt
check-ok (Some fs) w text refused ready told refuses edits is same = λ ws.
    let shown = is ∙ told in
    let status = same ∙ refuses in
    rw (shown, edits, status) refl

stops-all : (ws : List ℕ) (P : Answer → Type 0) (f : CheckFault) → Stops ws P (check_stop f)
stops-all ws P (checked.ReadFault path) = tt
stops-all ws P checked.Memory = tt

pub check-stopped : (o : Option FileMap) (w : WorkspaceValue) (f : CheckFault) (end : Stop) → end ≡ check_stop f
    → IfSome o (λ fs. Answers (IsAskAnswer fs check_asked w) (Err end))
check-stopped o w f end is =
    if_told o (λ fs. Answers (IsAskAnswer fs check_asked w) (Err end))
    (λ fs ws. subst (Stops ws (IsAskAnswer fs check_asked w)) (sym is) (stops-all ws (IsAskAnswer fs check_asked w) f))

reads-same : (f : CheckFault) → fault_reads f ≡ stop_reads (check_stop f)
reads-same (checked.ReadFault path) = refl
reads-same checked.Memory = refl

pub check-reads : (a b : FilesTold) (f : CheckFault) (end : Stop) → end ≡ check_stop f → ReadsOnly a b (fault_reads f) → ReadsOnly a b (stop_reads end)
check-reads a b f end is reads = subst (ReadsOnly a b) (reads-same f ∙ sym (ap stop_reads is)) reads
