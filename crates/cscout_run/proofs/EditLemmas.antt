-- The answer to an edit over an analysis: from what is planned.
use Rattle.std.proofs.Common.{◌≡◌, ℕ, false, List, Some, Result, Ok, Err, ◌++◌, refl, subst, sym}
use Rattle.std.specs.Prelude.{IfSome, IsErrAnd}
use Rattle.analysis.specs.Analysis.{AnalysisValue}
use Rattle.offences.specs.Refusals.{refusal_of}
use Rattle.offences.specs.declared.refusals.PlanFault.{PlanFault}
use Rattle.offences.specs.declared.refusals.PlanFault.TheVariants.{Refused, Memory}
use Rattle.command_words.specs.Message.{edited_lines}
use Rattle.command_words.specs.Request.{EditValue}
use Rattle.cscout_run.specs.declared.preparing.Ready.{Ready}
use Rattle.cscout_run.specs.declared.stops.Stop.{Stop}
use Rattle.cscout_run.specs.Asks.{IsEdit, IsEditAnswer, LeavesUnseen}
use Rattle.cscout_run.specs.Steps.{Tells, ready_answer}
use Rattle.cscout_run.specs.Stopping.{plan_stop}

-- why there are no edits, as the early end that it is
pub plan_tells : (edit : EditValue) (value : AnalysisValue) (fault : PlanFault) → IfSome (refusal_of fault) (λ refusal. IsEdit edit value (Err refusal))
    → Tells ready_answer (IsEditAnswer edit value) (Err (plan_stop fault))
plan_tells edit value (Refused refusal) is = (Err refusal, is, refl)
plan_tells edit value Memory is = tt

-- the same where it is handed on
pub plan_told : (edit : EditValue) (value : AnalysisValue) (fault : PlanFault) (result : Result Ready Stop) → IsErrAnd result (λ e. e ≡ plan_stop fault)
    → IfSome (refusal_of fault) (λ refusal. IsEdit edit value (Err refusal)) → Tells ready_answer (IsEditAnswer edit value) result
plan_told edit value fault (Ok ready) same is = absurd same
plan_told edit value fault (Err e) same is = subst (λ (s : Stop). Tells ready_answer (IsEditAnswer edit value) (Err s)) (sym same) (plan_tells edit value fault is)

-- the edits of a plan, the lines that tell them, and those of what they leave unseen
pub plan_answers : (edit : EditValue) (value : AnalysisValue) (ready : Ready) (left : List ℕ) → IsEdit edit value (Ok ready.edits)
    → LeavesUnseen edit value left → ready.text.items ≡ edited_lines ready.edits ++ left → ready.refused ≡ false → IsEditAnswer edit value (ready_answer ready)
plan_answers edit value ready left is leaves lines refused = (Ok ready.edits, is, (left, leaves, rw (lines, refused) refl))
