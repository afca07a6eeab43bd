use Rattle.std.proofs.Common.{◌≡◌, ◌++◌, drop}
use Rattle.std.specs.List.{flat_map}
use Rattle.calls_of.specs.InUnits.{replacement_call}
use Rattle.calls_of.proofs.one_unit.OneUnit.add_replacements.Given as goal

abbrev pub invariant-loop-event : goal.invariant-loop-event
invariant-loop-event l =
    l.calls.items ++ flat_map (replacement_call l.known l.self) (drop l.event-index l.events) ≡ l.initial.calls.items ++ flat_map (replacement_call l.known l.self) l.events
