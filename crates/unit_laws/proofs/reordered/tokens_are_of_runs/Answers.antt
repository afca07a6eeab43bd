use Rattle.unit_laws.proofs.TokenRunLemmas.{unit_tokens_are_of_runs}
use Rattle.unit_laws.proofs.reordered.tokens_are_of_runs.Goals as goal

pub returns : goal.returns
returns c = unit_tokens_are_of_runs
