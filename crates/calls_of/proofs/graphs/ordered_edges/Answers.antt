use Rattle.calls_of.proofs.CallLemmas.{calls-ordered}
use Rattle.calls_of.proofs.NodeLemmas.{edges-in-order}
use Rattle.calls_of.proofs.graphs.ordered_edges.Goals as goal

pub returns-clause-calls : goal.returns-clause-calls
returns-clause-calls c =
    calls-ordered c.args.nodes.now c.args.calls.now c.in_ok-edges.edges.items c.order_edges.new.edges.items c.in_ok-edges.ensures c.order_edges.ensures

pub returns-clause-ordered : goal.returns-clause-ordered
returns-clause-ordered c = edges-in-order c.order_edges.new.edges.items c.order_edges.ensures.ordered
