use Rattle.std.proofs.Common.{◌≡◌, take}
use Rattle.std.specs.List.{flat_map}
use Rattle.class_marks.specs.Marks.{with_tokens}
use Rattle.class_marks.specs.Roles.{event_name}
use Rattle.class_marks.proofs.marks.mark_events.Given as goal

abbrev pub invariant-loop-event : goal.invariant-loop-event
invariant-loop-event l = l.marks.items ≡ with_tokens l.classes l.initial.marks.items (flat_map (event_name l.role) (take l.event-index l.events))
