use Rattle.std.proofs.Common.{rules, ◌≡◌, ◌+◌, ◌++◌, ◌∷◌, [], take}
use Rattle.std.proofs.lemmas.List.{take_more}
use Rattle.calls_of.proofs.CallLemmas.{calls-more}
use Rattle.calls_of.proofs.numbering.edges_of.Goals as goal

pub loop-call-preserved : goal.loop-call-preserved
loop-call-preserved c =
    let calls = c.args.calls.now in
    let i = c.loop-call.call-index in
    let call = c.call-item.result in
    let added = c.in_ok-add_edge.ensures in
    let one_more : take (i + 1) calls ≡ take i calls ++ call ∷ [] = search (rules, take_more) in
    calls-more c.args.nodes.now (take i calls) c.loop-call.edges.items call added.edge added.caller added.callee c.loop-call.invariant
    (take (i + 1) calls) c.add_edge.new.edges.items one_more added.pushed
