use Rattle.std.proofs.Common.{◌≡◌, [], false, Ok, refl, sym, ap, subst, ◌∙◌, rules}
use Rattle.cs_base.specs.Edit.{IsKept}
use Rattle.batch_run.specs.declared.running.Batched.{Batched}
use Rattle.batch_run.specs.declared.stepping.Batching.{Batching}
use Rattle.batch_run.specs.Standing.{StandingValue, settled_value}
use Rattle.batch_run.specs.Stepping.{IsReady, RunTo}
use Rattle.batch_run.proofs.RunLemmas.{run_first, run_over}
use Rattle.batch_run.proofs.running.run_lines.Goals as goal

pub each_line-requires : goal.each_line-requires
each_line-requires c =
    let s : StandingValue → Batching = λ v. record { analysis = v; edits = c.new.result; text = c.new-2.result; refused = false } in
    subst (λ (v : StandingValue). IsReady c.args.ws.now (s v)) (sym c.at.ensures)
    (run_first c.args.ws.now (s (settled_value c.args.analysis.value)) c.files-files.ensures.once c.requires c.new.ensures)

pub returns-clause-over : goal.returns-clause-over
returns-clause-over c =
    let first : Batching = record { analysis = c.at.result; edits = c.new.result; text = c.new-2.result; refused = false } in
    let s : Batching = c.in_ok-state.state in
    let b : Batched = record { edits = c.in_ok-edits.edits; text = s.text; refused = s.refused } in
    let run : RunTo c.args.ws.now first c.args.lines.now s = c.in_ok-state.ensures in
    let empty : first.text.items ≡ [] = search rules in
    let same : b.edits ≡ s.edits = search rules in
    let sound : IsKept b.edits = search rules in (
      run.plans,
      λ source analysed. run_over c.args.ws.now first s c.args.lines.now b run c.new.ensures empty refl refl refl same sound source
          (analysed ∙ ap (λ (v : StandingValue). Ok v.value) (sym c.at.ensures)),
    )
