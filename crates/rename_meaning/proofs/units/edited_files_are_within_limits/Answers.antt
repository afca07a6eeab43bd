use Rattle.rename_meaning.proofs.SizeLemmas.{edited_files_are_within_limits}
use Rattle.rename_meaning.proofs.units.edited_files_are_within_limits.Goals as goal

pub returns : goal.returns
returns c = edited_files_are_within_limits
