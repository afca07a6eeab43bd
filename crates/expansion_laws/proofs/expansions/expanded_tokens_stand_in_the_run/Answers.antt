use Rattle.expansion_laws.proofs.PiecesLemmas.{places_are_of_the_run}
use Rattle.expansion_laws.proofs.expansions.expanded_tokens_stand_in_the_run.Goals as goal

pub returns : goal.returns
returns c = record { places = places_are_of_the_run }
