use Rattle.expansion_laws.proofs.ArrangeLemmas.{runs_are_arranged}
use Rattle.expansion_laws.proofs.arranged.runs_are_arranged.Goals as goal

pub returns : goal.returns
returns c = record { arranged = runs_are_arranged c.expansion_goes_part_by_part.ensures.parts }
