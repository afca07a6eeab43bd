use Rattle.std.proofs.Common.{◌≡◌, ℕ, ◌<◌, length, take}
use Rattle.calls_of.specs.Graph.{is_edge}
use Rattle.calls_of.specs.Walking.{is_marked}
use Rattle.calls_of.proofs.call_graph.Graph.callers.Given as goal

abbrev pub invariant-loop-edge : goal.invariant-loop-edge
invariant-loop-edge l = (length l.marks ≡ length l.self.nodes)
    × ((m : ℕ) → m < length l.marks → is_marked l.marks m ≡ is_edge (take l.edge-index l.self.edges) m l.node)
