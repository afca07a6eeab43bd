use Rattle.std.proofs.Common.{◌<◌, ◌^◌, ◌∙◌, List, length, subst}
use Rattle.calls_of.specs.declared.nodes.Node.{Node}
use Rattle.calls_of.specs.Calls.{Call}
use Rattle.calls_of.specs.Numbers.{AreCalls}
use Rattle.calls_of.proofs.CallLemmas.{is-graph}
use Rattle.calls_of.proofs.graphs.graph_over.Goals as goal

pub returns : goal.returns
returns c =
    let nodes : List Node = c.order_nodes.new.nodes.items in
    let calls : List Call = c.in_ok-found.found.calls.items in
    let edges = c.in_ok-edges.edges.items in
    let few : length nodes < 2 ^ 32 = subst (λ (ns : List Node). length ns < 2 ^ 32) c.deref.ensures.value c.in_ok-edges.ensures.few in
    let named : AreCalls nodes c.deref-2.result.now edges =
    subst (λ (ns : List Node). AreCalls ns c.deref-2.result.now edges) c.deref.ensures.value c.in_ok-edges.ensures.calls in
    let are : AreCalls nodes calls edges = subst (λ (cs : List Call). AreCalls nodes cs edges) c.deref-2.ensures.value named in
    is-graph c.args.a.now.value c.in_ok-found.found.nodes.items nodes c.in_ok-own.own.items calls edges c.new.result (rw c.requires.all at c.in_ok-found.ensures.nodes)
    (rw c.requires.all at c.in_ok-found.ensures.calls) c.order_nodes.ensures few are c.in_ok-edges.ensures.ordered (c.in_ok-own.ensures ∙ c.deref-3.ensures.value) c.new.ensures
