use Rattle.std.proofs.Common.{true, Err, refl}
use Rattle.batch_run.specs.declared.stepping.Batching.{Batching}
use Rattle.batch_run.proofs.StepLemmas.{refused_steps}
use Rattle.batch_run.proofs.stepping.tell_refusal.Goals as goal

pub returns : goal.returns
returns c =
    let q = c.args.line.now in
    let old : Batching = c.args.state in
    let s : Batching = record { analysis = old.analysis; edits = old.edits; text = c.push_refusal.new.text; refused = true } in
    (Err c.args.refusal.now, refused_steps c.args.ws.now q c.args.refusal.now old s c.requires c.in_ok-push_refusal.ensures refl refl refl)
