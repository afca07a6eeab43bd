use Rattle.renamed.proofs.StayLemmas as stay
use Rattle.renamed.proofs.staying.renamed_units_stay.Goals as goal

pub returns : goal.returns
returns c = stay.renamed_units_stay
