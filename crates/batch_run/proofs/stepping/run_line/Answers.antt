use Rattle.std.proofs.Common.{◌≡◌, Result, Ok, Err, IfOk, ap, sym, ◌∙◌}
use Rattle.batch_run.specs.declared.stepping.Batching.{Batching}
use Rattle.batch_run.specs.Batch.{Plan}
use Rattle.batch_run.specs.Standing.{StandingValue}
use Rattle.batch_run.specs.Stepping.{Steps}
use Rattle.batch_run.proofs.StepLemmas.{settled_steps}
use Rattle.batch_run.proofs.stepping.run_line.Goals as goal

if_ok : {X E : Type 0} (r : Result X E) (P Q : X → Type 0) → ((x : X) → P x → Q x) → IfOk r P → IfOk r Q
if_ok (Ok x) P Q f h = f x h
if_ok (Err e) P Q f h = h

pub answer_line-requires : goal.answer_line-requires
answer_line-requires c =
    let e = c.in_ok-analysis.ensures in
    record {
      ready = (c.requires.0, c.requires.1 ∙ ap (λ (v : StandingValue). Ok v.value) (sym e));
      settled = ap (λ (v : StandingValue). v.waits) e;
    }

pub returns : goal.returns
returns c =
    let ws = c.args.ws.now in
    let q = c.args.line.now in
    let old : Batching = c.args.state in
    let v : StandingValue = c.in_ok-analysis.analysis in
    let same = ap (λ (x : StandingValue). x.value) c.in_ok-analysis.ensures in
    if_ok c.answer_line.result (λ (s : Batching). (plan : Plan) × Steps ws q plan (record old { analysis = v }) s) (λ (s : Batching). (plan : Plan) × Steps ws q plan old s)
    (λ s step. (step.0, settled_steps ws q step.0 old s v same step.1)) c.answer_line.ensures
