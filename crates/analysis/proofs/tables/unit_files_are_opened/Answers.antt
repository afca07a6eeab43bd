use Rattle.analysis.proofs.ReadLemmas.{unit_files_opened}
use Rattle.analysis.proofs.tables.unit_files_are_opened.Goals as goal

pub returns : goal.returns
returns c = unit_files_opened
