use Rattle.std.proofs.Common.{◌≡◌, ◌++◌, take}
use Rattle.unit_steps.proofs.unit_text.pieces.push_events.Given as goal

abbrev pub invariant-loop-event : goal.invariant-loop-event
invariant-loop-event l = l.all.items ≡ l.initial.all.items ++ take l.event-index l.events
