use Rattle.std.proofs.Common.{◌≡◌, ◌++◌, drop}
use Rattle.std.specs.List.{flat_map}
use Rattle.calls_of.specs.Graphs.{event_node}
use Rattle.calls_of.proofs.unit_calls.add_all_defined.Given as goal

abbrev pub invariant-loop-event : goal.invariant-loop-event
invariant-loop-event l =
    l.nodes.items ++ flat_map event_node (drop l.event-index l.events) ≡ l.initial.nodes.items ++ flat_map event_node l.events
