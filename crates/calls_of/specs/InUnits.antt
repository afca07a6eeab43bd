-- What the functions say of a unit, by the tables.
use Rattle.std.specs.Prelude.{ℕ, ◌≡◌, Option, List}
use Rattle.cs_base.specs.declared.positions.Pos.{Pos}
use Rattle.cs_base.specs.Token.{Token}
use Rattle.analysis.specs.Below.unit_steps.declared.events.Event.{Event}
use Rattle.analysis.specs.Below.unit_steps.declared.events.EventKind.{EventKind}
use Rattle.analysis.specs.Below.linkage_join.Firsts.{first_at}
use Rattle.analysis.specs.Below.c_types.declared.lists.List.{List as NameList}
use Rattle.analysis.specs.Analysis.{AnalysisValue}
use Rattle.calls_of.specs.declared.nodes.Node.{Node}
use Rattle.calls_of.specs.declared.known.Known.{Known}
use Rattle.calls_of.specs.declared.one_unit.OneUnit.{OneUnit}
use Rattle.calls_of.specs.Bodies.{owner_of}
use Rattle.calls_of.specs.Calls as told
use Rattle.calls_of.specs.Calls.{Call}
use Rattle.calls_of.specs.Graphs as told_nodes
use Rattle.calls_of.specs.Owners.{owner_at}

-- the macro in whose replacement list a position stands
abbrev pub owner_by : Known → Pos → Option Token
owner_by known = owner_at known.owners.names

-- for a project and a spelling the first token of an external name
abbrev pub first_by : Known → List ℕ → List ℕ → Option Token
first_by known = first_at known.firsts.toks

-- The tables are those of an analysis.
pub record AreKnown (a : AnalysisValue) (known : Known) : Type 0 where
  pub owners : owner_by known ≡ owner_of a
  pub firsts : first_by known ≡ told.first_in a

-- What is said of a unit by the tables.
module _ (known : Known) (u : OneUnit) where
  abbrev pub first_of : ℕ → Option Token
  first_of = told.first_of (owner_by known) (first_by known) u.project.now u.toks.now u.bound.now

  abbrev pub function_node : ℕ → Option Node
  function_node = told.function_node (owner_by known) (first_by known) u.project.now u.toks.now u.bound.now

  abbrev pub macro_around : Token → Option Node
  macro_around = told.macro_around (owner_by known) (first_by known) u.project.now u.toks.now u.bound.now

  abbrev pub function_around : ℕ → Option Node
  function_around = told.function_around (owner_by known) (first_by known) u.project.now u.toks.now u.bound.now

  abbrev pub caller_of : ℕ → Token → Option Node
  caller_of = told.caller_of (owner_by known) (first_by known) u.project.now u.toks.now u.bound.now

  abbrev pub entity_call : ℕ → Token → ℕ → List Call
  entity_call = told.entity_call (owner_by known) (first_by known) u.project.now u.toks.now u.bound.now

  abbrev pub direct_call : NameList → List Call
  direct_call = told.direct_call (owner_by known) (first_by known) u.project.now u.toks.now u.bound.now

  abbrev pub replacing : EventKind → Option Token → Option Pos → ℕ → List Call
  replacing = told.replacing (owner_by known) (first_by known) u.project.now u.toks.now u.bound.now

  abbrev pub replacement_call : Event → List Call
  replacement_call = told.replacement_call (owner_by known) (first_by known) u.project.now u.toks.now u.bound.now

  abbrev pub unit_calls : List Event → List Call
  unit_calls = told.unit_calls (owner_by known) (first_by known) u.project.now u.toks.now u.bound.now

  abbrev pub function_named : ℕ → List Node
  function_named = told_nodes.function_named (owner_by known) (first_by known) u.project.now u.toks.now u.bound.now

  abbrev pub unit_nodes : List Event → List Node
  unit_nodes = told_nodes.unit_nodes (owner_by known) (first_by known) u.project.now u.toks.now u.bound.now
