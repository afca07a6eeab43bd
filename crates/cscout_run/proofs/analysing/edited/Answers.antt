use Rattle.std.proofs.Common.{◌++◌, ◌∙◌, List, ℕ, false, ap, refl}
use Rattle.command_words.specs.Asking.{edit_value}
use Rattle.cscout_run.specs.declared.preparing.Ready.{Ready}
use Rattle.cscout_run.proofs.EditLemmas.{plan_answers, plan_told}
use Rattle.cscout_run.proofs.analysing.edited.Goals as goal

pub returns-in_err-edits-clause-answer : goal.returns-in_err-edits-clause-answer
returns-in_err-edits-clause-answer c =
    plan_told (edit_value c.args.edit.now) c.args.a.now.value c.in_err-edits.field-0.0 c.from_residual.result c.from_residual.ensures.1
    c.in_err-edits.ensures.answer

pub returns-clause-answer : goal.returns-clause-answer
returns-clause-answer c =
    let left = c.in_ok-push_left.ensures in
    let ready : Ready = record { edits = c.in_ok-edits.edits; text = c.push_left.new.text; refused = false } in
    plan_answers (edit_value c.args.edit.now) c.args.a.now.value ready left.0 c.in_ok-edits.ensures.answer left.1
    (left.2 ∙ ap (λ (text : List ℕ). text ++ left.0) c.in_ok-text.ensures.lines) refl
