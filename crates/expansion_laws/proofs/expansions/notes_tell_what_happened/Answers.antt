use Rattle.expansion_laws.proofs.TellingLemmas.{notes_are_true, links_are_alike}
use Rattle.expansion_laws.proofs.expansions.notes_tell_what_happened.Goals as goal

pub returns : goal.returns
returns c = record { notes = notes_are_true; links = links_are_alike }
