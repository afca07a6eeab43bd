use Rattle.std.proofs.Common.{◌+◌, length}
use Rattle.calls_of.proofs.WalkLemmas.{IsWalk, unmarked}
use Rattle.calls_of.proofs.call_graph.Graph.reachable.Given as goal

abbrev pub invariant-loop-from : goal.invariant-loop-from
invariant-loop-from l = IsWalk l.self.edges (length l.self.nodes) l.node l.walk

abbrev pub decreases-loop-from : goal.decreases-loop-from
decreases-loop-from l = unmarked l.walk.marks + length l.walk.work
