use Rattle.std.proofs.Common.{◌≡◌, ◌++◌, drop}
use Rattle.std.specs.List.{flat_map}
use Rattle.analysis.specs.FileTokens.{number_of_event}
use Rattle.analysis.proofs.brought.push_brought.Given as goal

abbrev pub invariant-loop-event : goal.invariant-loop-event
invariant-loop-event l =
    l.all.items ++ flat_map number_of_event (drop l.event-index l.events) ≡ l.initial.all.items ++ flat_map number_of_event l.events
