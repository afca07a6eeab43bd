use Rattle.edited_unit_laws.proofs.FoundLemmas.{edited_tables_are_found}
use Rattle.edited_unit_laws.proofs.units.edited_tables_are_found.Goals as goal

pub returns : goal.returns
returns c = record { found = edited_tables_are_found }
