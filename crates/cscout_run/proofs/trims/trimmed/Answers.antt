use Rattle.std.proofs.Common.{◌≡◌, ◌∙◌, ◌++◌, ℕ, false, List, ap, refl}
use Rattle.trim_plan.specs.Stays.{told_lines}
use Rattle.trim_plan.proofs.ToldLemmas.{is_told, keeps_rest}
use Rattle.cscout_run.specs.Trims.{asked_lines}
use Rattle.cscout_run.specs.declared.preparing.Ready.{Ready}
use Rattle.cscout_run.proofs.TrimLemmas.{trim_answers}
use Rattle.cscout_run.proofs.trims.trimmed.Goals as goal

pub returns-clause-answer : goal.returns-clause-answer
returns-clause-answer c =
    let a = c.args.a.now.value in
    let trim = c.in_ok-trim.trim in
    let ready : Ready = record { edits = trim.edits; text = c.push_asked.new.text; refused = false } in
    trim_answers c.args.stays a ready (told_lines a trim) (is_told a trim c.in_ok-trim.ensures.answer)
    (c.in_ok-push_asked.ensures ∙ ap (λ (text : List ℕ). text ++ asked_lines c.args.stays (told_lines a trim)) c.in_ok-text.ensures.lines) refl

pub returns-clause-keeps : goal.returns-clause-keeps
returns-clause-keeps c = keeps_rest c.args.a.now.value c.in_ok-trim.trim c.in_ok-trim.ensures.answer c.in_ok-trim.ensures.meaning
