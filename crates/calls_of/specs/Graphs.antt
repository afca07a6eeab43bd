-- The graph of the calls of an analysis, and its report (this project's).
use Rattle.std.specs.Prelude.{ℕ, ◌≡◌, ◌↔◌, true, false, if◌then◌else◌, Option, Some, List, [], ◌∷◌, ◌++◌, codes, length, slice_get}
use Rattle.std.specs.List.{flat_map, range_with_len, Contains}
use Rattle.std.specs.List.Sorted.{IsStrictlySortedBy}
use Rattle.std.specs.Option.{option_map_or, option_to_list}
use Rattle.std.specs.Cmp.Lexicographic.{slice_cmp}
use Rattle.std.specs.Ordering.{nat_cmp, ordering_then}
use Rattle.std.specs.declared.cmp.Ordering.{Ordering}
use Rattle.cs_base.specs.declared.positions.Pos.{Pos}
use Rattle.cs_base.specs.Token.{Token}
use Rattle.cs_base.specs.Units.{UnitValue}
use Rattle.analysis.specs.Below.unit_steps.declared.events.Event.{Event}
use Rattle.analysis.specs.Below.unit_steps.declared.events.EventKind.{EventKind}
use Rattle.analysis.specs.Below.unit_steps.declared.events.EventKind.TheVariants as kind
use Rattle.analysis.specs.Below.source_files.Files.{Table, lines_path}
use Rattle.analysis.specs.Below.source_files.KeptFiles.{KeptValue, kept_at}
use Rattle.analysis.specs.Below.scope_bind.Bound.{Bound, is_function_name}
use Rattle.analysis.specs.Below.scope_bind.Names.{kind_at}
use Rattle.analysis.specs.Analysis.{UnitAnalysis, AnalysisValue}
use Rattle.analysis.specs.ClassReport.{place_text}
use Rattle.analysis.specs.Places.{place_at}
use Rattle.calls_of.specs.declared.nodes.Node.{Node}
use Rattle.calls_of.specs.declared.nodes.NodeKind.{NodeKind}
use Rattle.calls_of.specs.declared.nodes.NodeKind.TheVariants.{Macro, Function}
use Rattle.calls_of.specs.declared.nodes.Edge.{Edge}
use Rattle.calls_of.specs.Graph.{GraphValue, IsGraph, is_edge}
use Rattle.calls_of.specs.Bodies.{owner_of}
use Rattle.calls_of.specs.Calls.{Call, node_of, function_node, first_in, in_units, calls_of}

-- ---- nodes

-- the macro that a `define` line defines (6.10.3)
abbrev pub defined_node : EventKind → Option Token → List Node
defined_node kind.Defined (Some name) = option_to_list (node_of Macro name)
defined_node _ _ = []

abbrev pub event_node : Event → List Node
event_node e = defined_node e.kind e.name

-- As with the calls, the project, the tokens and the binding are those of a unit.
module _ (owner : Pos → Option Token) (first : List ℕ → List ℕ → Option Token) (project : List ℕ) (toks : List Token) (bound : Bound) where
  -- the function that token k is the first one of in its unit
  abbrev pub function_named : ℕ → List Node
  function_named k =
      if option_map_or is_function_name (kind_at bound.names k) false
      then option_to_list (function_node owner first project toks bound k)
      else []

  -- the macros and functions of the unit
  abbrev pub unit_nodes : List Event → List Node
  unit_nodes events = flat_map event_node events ++ flat_map function_named (range_with_len 0 (length toks))

abbrev pub nodes_in_unit : AnalysisValue → UnitValue → UnitAnalysis → List Node
nodes_in_unit a unit u = unit_nodes (owner_of a) (first_in a) unit.project u.text.toks u.bound u.text.events

-- the ends of a call
abbrev pub ends_of : Call → List Node
ends_of c = c.caller ∷ c.callee ∷ []

-- The macros that units define, their functions, and the ends of calls.
abbrev pub nodes_of : AnalysisValue → List Node
nodes_of a = in_units (nodes_in_unit a) a.workspace.units a.units ++ flat_map ends_of (calls_of a)

-- ---- order

abbrev pub kind_number : NodeKind → ℕ
kind_number Macro = 0
kind_number Function = 1

-- the path of a position: that of its kept file, or that of the pseudo file of lines
abbrev pub path_of : Table → ℕ → List ℕ
path_of table number = option_map_or (λ (f : KeptValue). f.path) (kept_at table number) lines_path

-- positions by the bytes of their paths, and in a file by their characters
abbrev pub pos_cmp : Table → Pos → Pos → Ordering
pos_cmp table p q = ordering_then (slice_cmp nat_cmp (path_of table p.file) (path_of table q.file)) (nat_cmp p.at q.at)

-- macros come before functions, and then the numbers of files decide
abbrev pub kind_cmp : Node → Node → Ordering
kind_cmp m n = ordering_then (nat_cmp (kind_number m.kind) (kind_number n.kind)) (nat_cmp m.at.file n.at.file)

-- Nodes are ordered by their places, and at one place by the bytes of their names. So no two of an analysis tie, since a
-- name of a `define` line is no name of a function and each path has one number; the rest of the order says it of all.
abbrev pub node_cmp : Table → Node → Node → Ordering
node_cmp table m n =
    ordering_then (pos_cmp table m.at n.at) (ordering_then (slice_cmp nat_cmp m.name n.name) (kind_cmp m n))

-- ---- the graph

-- an edge of the graph leads from the caller to the callee
pub record IsCallIn (g : GraphValue) (c : Call) : Type 0 where
  pub caller : ℕ
  pub callee : ℕ
  pub calls : slice_get g.nodes caller ≡ Some c.caller
  pub called : slice_get g.nodes callee ≡ Some c.callee
  pub led : is_edge g.edges caller callee ≡ true

-- The graph has each node once, in order, and its edges are the calls.
pub record IsGraphOf (a : AnalysisValue) (g : GraphValue) : Type 0 where
  pub sound : IsGraph g
  pub ordered : IsStrictlySortedBy (node_cmp a.table) g.nodes
  pub nodes : (n : Node) → Contains g.nodes n ↔ Contains (nodes_of a) n
  pub calls : (c : Call) → IsCallIn g c ↔ Contains (calls_of a) c

-- ---- the report

-- a node by its place and its name
abbrev pub node_text : Table → Node → List ℕ
node_text table n = place_text (place_at table n.at) ++ codes " " ++ n.name

abbrev pub numbered_text : Table → List Node → ℕ → List ℕ
numbered_text table nodes k = option_map_or (node_text table) (slice_get nodes k) []

-- the line of an edge
abbrev pub edge_line : Table → List Node → Edge → List ℕ
edge_line table nodes e =
    numbered_text table nodes e.caller ++ codes " -> " ++ numbered_text table nodes e.callee ++ codes "\n"

-- The report `calls`: a line for each edge, in the order of the callers and then of the callees.
unfoldable pub calls_text : Table → GraphValue → List ℕ
calls_text table g = flat_map (edge_line table g.nodes) g.edges
