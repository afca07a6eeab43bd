use Rattle.std.proofs.Common.{Some, None, Ok, refl, sym, subst, ◌∙◌}
use Rattle.std.proofs.lemmas.Option.{none-some}
use Rattle.analysis.specs.Analysis.{AnalysisValue}
use Rattle.analysis.specs.Naming.{Names}
use Rattle.batch_run.specs.declared.stepping.Batching.{Batching}
use Rattle.batch_run.proofs.KeepingLemmas.{line_is_followed}
use Rattle.batch_run.proofs.StepLemmas.{accepted_steps}
use Rattle.rename_rules.proofs.PlannedLemmas.{IsPlan, is_plan}
use Rattle.batch_run.proofs.stepping.accept_line.Goals as goal

pub unreachable-requires : goal.unreachable-requires
unreachable-requires c =
    let q = c.args.line.now in
    let a : AnalysisValue = c.args.state.analysis.value in
    let d : IsPlan a q.path q.line q.column q.name q.strings c.args.new.now = is_plan a q.path q.line q.column q.name q.strings c.args.new.now c.requires.answered in
    let here : Names c.analysis.result.now.value q.path q.line q.column None = rw (← c.path.ensures, ← c.line.ensures, ← c.column.ensures) c.in-None.ensures in
    let none : Names a q.path q.line q.column None = subst (λ (b : AnalysisValue). Names b q.path q.line q.column None) c.analysis.ensures here in
    none-some d.named.0 (sym none ∙ d.named.1)

pub followed-requires-clause-part : goal.followed-requires-clause-part
followed-requires-clause-part c =
    let q = c.args.line.now in
    let a : AnalysisValue = c.args.state.analysis.value in
    let here : Names c.analysis.result.now.value q.path q.line q.column (Some c.in-Some.part) = rw (← c.path.ensures, ← c.line.ensures, ← c.column.ensures) c.in-Some.ensures in
    let named : Names a q.path q.line q.column (Some c.in-Some.part) = subst (λ (b : AnalysisValue). Names b q.path q.line q.column (Some c.in-Some.part)) c.analysis.ensures here in
    named.2

pub followed-requires-clause-follows : goal.followed-requires-clause-follows
followed-requires-clause-follows c =
    let q = c.args.line.now in
    let a : AnalysisValue = c.args.state.analysis.value in
    let here : Names c.analysis.result.now.value q.path q.line q.column (Some c.in-Some.part) = rw (← c.path.ensures, ← c.line.ensures, ← c.column.ensures) c.in-Some.ensures in
    let named : Names a q.path q.line q.column (Some c.in-Some.part) = subst (λ (b : AnalysisValue). Names b q.path q.line q.column (Some c.in-Some.part)) c.analysis.ensures here in
    rw c.name.ensures
    (line_is_followed c.args.ws.now q a c.args.new.now c.in-Some.part named _ c.requires.ready.1 c.requires.answered)

pub returns : goal.returns
returns c =
    let q = c.args.line.now in
    let a : AnalysisValue = c.args.state.analysis.value in
    let s : Batching = record { analysis = c.in_ok-standing-in-Some.standing; edits = c.put_each.new.self; text = c.push_edits.new.text; refused = c.args.state.refused } in
    let here : Names c.analysis.result.now.value q.path q.line q.column (Some c.in-Some.part) = rw (← c.path.ensures, ← c.line.ensures, ← c.column.ensures) c.in-Some.ensures in
    let named : Names a q.path q.line q.column (Some c.in-Some.part) = subst (λ (b : AnalysisValue). Names b q.path q.line q.column (Some c.in-Some.part)) c.analysis.ensures here in (
      Ok c.args.new.now,
      accepted_steps c.args.ws.now q c.args.new.now c.in-Some.part c.args.state s c.requires.renames c.requires.answered
          c.in_ok-push_edits.ensures.sound c.put_each.ensures.sound named (rw (← c.name.ensures) c.in_ok-standing-in-Some.ensures)
          c.in_ok-push_edits.ensures.lines refl c.in_ok-put_each.ensures.ok,
    )
