use Rattle.edited_unit_laws.proofs.TokenRunLemmas.{workspace_of_runs}
use Rattle.edited_unit_laws.proofs.reordered.workspace_tokens_are_of_runs.Goals as goal

pub returns : goal.returns
returns c = workspace_of_runs c.analyses_are_texts_that_read.ensures.texts c.tokens_are_of_runs.ensures
