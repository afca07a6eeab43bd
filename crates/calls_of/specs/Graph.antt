-- Graphs of calls (this project's own) among macros (ISO/IEC 9899:1999, 6.10.3) and functions (6.9.1).
use Rattle.std.specs.Prelude.{ℕ, Bool, true, ◌&&◌, ◌||◌, ◌==◌, ◌<◌, ◌^◌, List, [], ◌∷◌, IsTrue, length, nat_lt, All, filter}
use Rattle.std.specs.List.{list_any, range_with_len}
use Rattle.calls_of.specs.declared.nodes.Node.{Node}
use Rattle.calls_of.specs.declared.nodes.Edge.{Edge}

-- Nodes, which are known by their numbers from 0, and edges, which name them by these numbers.
pub record GraphValue : Type 0 where
  pub nodes : List Node
  pub edges : List Edge

-- a graph of these parts
abbrev pub graph : List Node → List Edge → GraphValue
graph nodes edges = record { nodes = nodes; edges = edges }

-- an edge leads from the caller to the callee
abbrev pub leads : ℕ → ℕ → Edge → Bool
leads caller callee e = e.caller == caller && e.callee == callee

-- some edge does
abbrev pub is_edge : List Edge → ℕ → ℕ → Bool
is_edge edges caller callee = list_any (leads caller callee) edges

-- an edge leads from one of so many nodes to another, or to itself
pub record IsWithin (nodes : ℕ) (e : Edge) : Type 0 where
  pub caller : e.caller < nodes
  pub callee : e.callee < nodes

-- an edge comes before another: by the caller, and then by the callee
abbrev pub comes_before : Edge → Edge → Bool
comes_before e f = nat_lt e.caller f.caller || (e.caller == f.caller && nat_lt e.callee f.callee)

-- each edge comes before the next
abbrev pub are_in_order : List Edge → Bool
are_in_order [] = true
are_in_order (e ∷ []) = true
are_in_order (e ∷ f ∷ es) = comes_before e f && are_in_order (f ∷ es)

-- the edges that lead from a caller
abbrev pub edges_of : ℕ → List Edge → List Edge
edges_of caller edges = filter (λ e. e.caller == caller) edges

-- What is true of every graph.
pub record IsGraph (g : GraphValue) : Type 0 where
  pub few : length g.nodes < 2 ^ 32
  pub within : All (IsWithin (length g.nodes)) g.edges
  pub ordered : IsTrue (are_in_order g.edges)

-- the numbers of the nodes that pass a test, in order
abbrev pub numbers_of : (ℕ → Bool) → ℕ → List ℕ
numbers_of test nodes = filter test (range_with_len 0 nodes)

-- the nodes that call a node, in order and each once
abbrev pub callers_of : GraphValue → ℕ → List ℕ
callers_of g callee = numbers_of (λ caller. is_edge g.edges caller callee) (length g.nodes)

-- the nodes that a node calls, in order and each once
abbrev pub callees_of : GraphValue → ℕ → List ℕ
callees_of g caller = numbers_of (λ callee. is_edge g.edges caller callee) (length g.nodes)
