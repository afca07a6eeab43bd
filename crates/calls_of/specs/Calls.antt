-- The calls of an analysis (this project's, over ISO/IEC 9899:1999, 6.5.2.2, 6.9.1 and 6.10.3): a macro that replaces
-- a name is called, and so is a function whose name stands directly before the parentheses of its arguments.
use Rattle.std.specs.Prelude.{ℕ, ◌&&◌, nat_lt, nat_le, if◌then◌else◌, Bool, false, Option, Some, List, [], ◌∷◌, ◌++◌, find, slice_get}
use Rattle.std.specs.List.{flat_map}
use Rattle.std.specs.Option.{option_map, option_map_or, option_and_then, option_or}
use Rattle.cs_base.specs.declared.positions.Pos.{Pos}
use Rattle.cs_base.specs.Token.{Token, origin_at}
use Rattle.cs_base.specs.Units.{UnitValue}
use Rattle.analysis.specs.Below.unit_steps.declared.events.Event.{Event}
use Rattle.analysis.specs.Below.unit_steps.declared.events.EventKind.{EventKind}
use Rattle.analysis.specs.Below.unit_steps.declared.events.EventKind.TheVariants as kind
use Rattle.analysis.specs.Below.c_types.declared.entity.Linkage.TheVariants.{External}
use Rattle.analysis.specs.Below.c_types.declared.lists.List.{List as NameList}
use Rattle.analysis.specs.Below.c_types.declared.lists.Range.{Range}
use Rattle.analysis.specs.Below.scope_bind.Bound.{Bound, is_function_name}
use Rattle.analysis.specs.Below.c_types.Declarations.{is_linkage}
use Rattle.analysis.specs.Below.scope_bind.Names.{entity_at, kind_at, linkage_at}
use Rattle.analysis.specs.Below.linkage_join.Linkage.{first_spelled, names_of}
use Rattle.analysis.specs.Analysis.{UnitAnalysis, AnalysisValue}
use Rattle.analysis.specs.Links.{names_of_units}
use Rattle.calls_of.specs.declared.nodes.Node.{Node}
use Rattle.calls_of.specs.declared.nodes.NodeKind.{NodeKind}
use Rattle.calls_of.specs.declared.nodes.NodeKind.TheVariants.{Macro, Function}
use Rattle.calls_of.specs.Bodies.{owner_of}

-- ---- nodes

abbrev pub node : NodeKind → List ℕ → Pos → Node
node sort name at = record { kind = sort; at = at; name = name }

-- the node that a token names: it stands where its first character comes from
abbrev pub node_of : NodeKind → Token → Option Node
node_of sort t = option_map (node sort t.text) (origin_at t 0)

-- A call: the node that calls, and the node that is called.
pub record Call : Type 0 where
  pub caller : Node
  pub callee : Node

abbrev pub call : Node → Node → Call
call caller callee = record { caller = caller; callee = callee }

-- a call where there are both nodes
abbrev pub call_for : Option Node → Option Node → List Call
call_for (Some caller) (Some callee) = call caller callee ∷ []
call_for _ _ = []

-- A body is open behind so many tokens of a unit: its `{` is among them, and its `}` is not (6.9.1).
abbrev pub is_open_behind : ℕ → Range → Bool
is_open_behind before r = nat_lt r.from before && nat_le before r.to

-- ---- the calls in a unit

-- Given are the macro in whose replacement list a position stands, and for a project and a spelling the first token of
-- an external name; the project, the tokens and the binding are those of the unit.
module _ (owner : Pos → Option Token) (first : List ℕ → List ℕ → Option Token) (project : List ℕ) (toks : List Token) (bound : Bound) where
  -- The first occurrence of a function declares it, since none may come before (6.5.1 paragraph 2). A function of
  -- external linkage is one in all units of a program (6.2.2 paragraph 2), which is a project here.
  abbrev pub first_of : ℕ → Option Token
  first_of entity =
      if is_linkage (linkage_at bound.names entity) External
      then option_and_then (λ t. first project t.text) (slice_get toks entity)
      else slice_get toks entity

  -- a function stands at its first occurrence
  abbrev pub function_node : ℕ → Option Node
  function_node entity = option_and_then (node_of Function) (first_of entity)

  -- the macro in whose replacement list a name stands, by where its first character comes from
  abbrev pub macro_around : Token → Option Node
  macro_around t = option_and_then (node_of Macro) (option_and_then owner (origin_at t 0))

  -- the name of the function whose body is open behind so many tokens
  abbrev pub body_behind : ℕ → Option ℕ
  body_behind before = option_map (λ (r : Range). r.name) (find (is_open_behind before) bound.functions)

  abbrev pub function_around : ℕ → Option Node
  function_around before = option_and_then function_node (option_and_then (entity_at bound.names) (body_behind before))

  -- the caller of a name: the macro in whose replacement list it stands, else the function in whose body it happens
  abbrev pub caller_of : ℕ → Token → Option Node
  caller_of before t = option_or (macro_around t) (function_around before)

  -- the call of an entity by its name, token k, if it is a function
  abbrev pub entity_call : ℕ → Token → ℕ → List Call
  entity_call k t entity =
      if option_map_or is_function_name (kind_at bound.names entity) false
      then call_for (caller_of k t) (function_node entity)
      else []

  -- the call whose callee is the name of a list of arguments (6.5.2.2)
  abbrev pub direct_call : NameList → List Call
  direct_call l =
      option_map_or (λ t. option_map_or (entity_call l.name t) (entity_at bound.names l.name) []) (slice_get toks l.name) []

  -- the call of the macro whose name stands there in its definition, where it replaces a name (6.10.3); the two that
  -- each unit begins with (6.10.8) stand nowhere and are no nodes
  abbrev pub replacing : EventKind → Option Token → Option Pos → ℕ → List Call
  replacing kind.Replaced (Some name) (Some def) before = call_for (caller_of before name) (Some (node Macro name.text def))
  replacing _ _ _ before = []

  abbrev pub replacement_call : Event → List Call
  replacement_call e = replacing e.kind e.name e.def e.before

  -- the calls of functions, and those of macros, which happen outside of bodies and in directives too
  abbrev pub unit_calls : List Event → List Call
  unit_calls events = flat_map direct_call bound.calls ++ flat_map replacement_call events

-- ---- all calls

-- for a project and a spelling the first token of an external name
abbrev pub first_in : AnalysisValue → List ℕ → List ℕ → Option Token
first_in a project text = first_spelled text (names_of project (names_of_units a.workspace.units a.units))

-- the calls in a unit of an analysis
abbrev pub calls_in_unit : AnalysisValue → UnitValue → UnitAnalysis → List Call
calls_in_unit a unit u = unit_calls (owner_of a) (first_in a) unit.project u.text.toks u.bound u.text.events

-- what each of these units has, in order
unfoldable pub in_units : {X : Type 0} → (UnitValue → UnitAnalysis → List X) → List UnitValue → List UnitAnalysis → List X
in_units f (unit ∷ units) (u ∷ us) = f unit u ++ in_units f units us
in_units f _ _ = []

-- The calls of an analysis, one for each time that they happen.
abbrev pub calls_of : AnalysisValue → List Call
calls_of a = in_units (calls_in_unit a) a.workspace.units a.units
