use Rattle.std.proofs.Common.{◌≡◌, ℕ, ◌<◌, length, take}
use Rattle.std.specs.Prelude.{◌==◌}
use Rattle.std.specs.List.{list_any}
use Rattle.calls_of.specs.Walking.{is_marked}
use Rattle.calls_of.proofs.call_graph.Graph.callees.Given as goal

abbrev pub invariant-loop-edge : goal.invariant-loop-edge
invariant-loop-edge l = (length l.marks ≡ length l.self.nodes)
    × ((m : ℕ) → m < length l.marks → is_marked l.marks m ≡ list_any (λ e. e.callee == m) (take l.edge-index l.edge-items))
