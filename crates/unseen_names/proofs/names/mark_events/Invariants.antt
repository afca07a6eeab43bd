use Rattle.std.proofs.Common.{take}
use Rattle.std.specs.List.{list_any}
use Rattle.unseen_names.specs.Characters.{Adds}
use Rattle.unseen_names.specs.Groups.{in_event}
use Rattle.unseen_names.proofs.names.mark_events.Given as goal

abbrev pub invariant-loop-event : goal.invariant-loop-event
invariant-loop-event l = Adds (λ p. list_any (in_event l.group p) (take l.event-index l.events)) l.initial.marks.items l.marks.items
