use Rattle.std.proofs.Common.{◌≡◌, map, take}
use Rattle.analysis.specs.Changed.{renamed_event}
use Rattle.offences.specs.Moves.{renaming_by}
use Rattle.kept_analysis.proofs.renamed_texts.renamed_events.Given as goal

abbrev pub invariant-loop-event : goal.invariant-loop-event
invariant-loop-event l = l.renamed.items ≡ map (renamed_event (renaming_by l.moves)) (take l.event-index l.events)
