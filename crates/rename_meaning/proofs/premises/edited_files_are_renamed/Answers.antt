use Rattle.rename_meaning.proofs.RenamingLemmas.{renamings_spell, edited_files_are_renamed}
use Rattle.rename_meaning.proofs.premises.edited_files_are_renamed.Goals as goal

pub returns : goal.returns
returns c = record { spells = renamings_spell; files = edited_files_are_renamed c.edited_files_keep_tokens.ensures }
