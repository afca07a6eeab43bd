-- Calls by the numbers of their nodes: what the functions that make edges promise.
use Rattle.std.specs.Prelude.{◌≡◌, ◌↔◌, Some, List, [], ◌∷◌, ◌++◌, length, All, slice_get}
use Rattle.std.specs.List.{Contains}
use Rattle.std.specs.Ordering.{nat_cmp, ordering_then}
use Rattle.std.specs.declared.cmp.Ordering.{Ordering}
use Rattle.calls_of.specs.declared.nodes.Node.{Node}
use Rattle.calls_of.specs.declared.nodes.Edge.{Edge}
use Rattle.calls_of.specs.Graph.{IsWithin, graph}
use Rattle.calls_of.specs.Calls.{Call}
use Rattle.calls_of.specs.Graphs.{IsCallIn}

-- edges by the caller, and then by the callee
abbrev pub edge_cmp : Edge → Edge → Ordering
edge_cmp e f = ordering_then (nat_cmp e.caller f.caller) (nat_cmp e.callee f.callee)

-- the edges among these nodes are these calls
pub record AreCalls (nodes : List Node) (calls : List Call) (edges : List Edge) : Type 0 where
  pub within : All (IsWithin (length nodes)) edges
  pub exactly : (c : Call) → IsCallIn (graph nodes edges) c ↔ Contains calls c

-- the edge of a call came behind the others
pub record AddsEdge (nodes : List Node) (c : Call) (old new : List Edge) : Type 0 where
  pub edge : Edge
  pub caller : slice_get nodes edge.caller ≡ Some c.caller
  pub callee : slice_get nodes edge.callee ≡ Some c.callee
  pub pushed : new ≡ old ++ edge ∷ []
