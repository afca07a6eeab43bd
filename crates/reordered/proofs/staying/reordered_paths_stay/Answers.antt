use Rattle.reordered.proofs.StayLemmas as stay
use Rattle.reordered.proofs.staying.reordered_paths_stay.Goals as goal

pub returns : goal.returns
returns c = stay.reordered_paths_stay
