use Rattle.rename_meaning.proofs.ReadLemmas.{edited_files_have_renamed_analysis, units_read_as_before}
use Rattle.rename_meaning.proofs.meaning.units_read_as_before.Goals as goal

pub returns : goal.returns
returns c = record { reads = units_read_as_before; analysis = edited_files_have_renamed_analysis }
