use Rattle.expansion_laws.proofs.EndLemmas.{first_stays, last_stays, expansions_end_alike}
use Rattle.expansion_laws.proofs.arranged.ends_stay.Goals as goal

pub returns : goal.returns
returns c = record { first = first_stays; last = last_stays; tests = expansions_end_alike }
