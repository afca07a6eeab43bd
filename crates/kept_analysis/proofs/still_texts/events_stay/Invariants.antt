use Rattle.std.proofs.Common.{◌≡◌, map, take}
use Rattle.analysis.specs.Changed.{renamed_event}
use Rattle.offences.specs.Moves.{renaming_by}
use Rattle.kept_analysis.proofs.still_texts.events_stay.Given as goal

abbrev pub invariant-loop-event : goal.invariant-loop-event
invariant-loop-event l = map (renamed_event (renaming_by l.moves)) (take l.event-index l.events) ≡ take l.event-index l.events
