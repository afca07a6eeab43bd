use Rattle.renamed.proofs.StayLemmas as stay
use Rattle.renamed.proofs.staying.edited_paths_stay.Goals as goal

pub returns : goal.returns
returns c = stay.edited_paths_stay
