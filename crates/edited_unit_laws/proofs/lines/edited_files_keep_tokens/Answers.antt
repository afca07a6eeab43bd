use Rattle.edited_unit_laws.proofs.EditedTokenLemmas.{edited_files_keep_tokens}
use Rattle.edited_unit_laws.proofs.lines.edited_files_keep_tokens.Goals as goal

pub returns : goal.returns
returns c = edited_files_keep_tokens
