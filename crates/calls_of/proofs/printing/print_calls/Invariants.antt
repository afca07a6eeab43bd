use Rattle.std.proofs.Common.{◌≡◌, ◌++◌, drop}
use Rattle.std.specs.List.{flat_map}
use Rattle.calls_of.specs.Graphs.{edge_line}
use Rattle.calls_of.proofs.printing.print_calls.Given as goal

abbrev pub invariant-loop-edge : goal.invariant-loop-edge
invariant-loop-edge l =
    l.text.items ++ flat_map (edge_line l.a.value.table l.g.nodes) (drop l.edge-index l.g.edges) ≡ flat_map (edge_line l.a.value.table l.g.nodes) l.g.edges
