use Rattle.edited_unit_laws.proofs.FileTokensLemmas as lemmas
use Rattle.edited_unit_laws.proofs.analyses.file_tokens_are_renamed.Goals as goal

pub returns : goal.returns
returns c = lemmas.file_tokens_are_renamed
