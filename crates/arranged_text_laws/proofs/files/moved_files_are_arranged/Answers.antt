use Rattle.arranged_text_laws.proofs.FileLaw.{files_are_arranged}
use Rattle.arranged_text_laws.proofs.files.moved_files_are_arranged.Goals as goal

pub returns : goal.returns
returns c = files_are_arranged
