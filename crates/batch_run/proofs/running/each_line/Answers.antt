use Rattle.std.proofs.Common.{◌≡◌, ◌+◌, ◌++◌, ◌∷◌, [], List, take, sym, ap, subst, ◌∙◌}
use Rattle.std.proofs.lemmas.Grind.{take_at_read}
use Rattle.batch_run.specs.Line.{LineValue}
use Rattle.batch_run.specs.Stepping.{RunTo}
use Rattle.batch_run.proofs.RunLemmas.{run_more, run_none, run_ready}
use Rattle.batch_run.proofs.running.each_line.Goals as goal

pub loop-line-init : goal.loop-line-init
loop-line-init c = run_none c.args.ws.now c.args.state

pub run_line-requires : goal.run_line-requires
run_line-requires c = run_ready c.args.ws.now c.args.state c.loop-line.state (take c.loop-line.line-index c.args.lines.now) c.requires c.loop-line.invariant

pub loop-line-preserved : goal.loop-line-preserved
loop-line-preserved c =
    let ws = c.args.ws.now in
    let lines : List LineValue = c.args.lines.now in
    let i = c.loop-line.line-index in
    let read = take_at_read lines i c.line-item.result c.loop-line-test.true in
    let more : take (i + 1) lines ≡ take i lines ++ c.line-item.result ∷ [] = read.1 ∙ ap (λ (q : LineValue). take i lines ++ q ∷ []) (sym c.line-item.is) in
    let step = c.in_ok-state.ensures in
    subst (λ (ls : List LineValue). RunTo ws c.args.state ls c.in_ok-state.state) (sym more)
    (run_more ws c.args.state c.loop-line.state c.in_ok-state.state (take i lines) c.line-item.result step.0 c.loop-line.invariant step.1)
