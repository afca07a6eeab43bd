use Rattle.rename_meaning.proofs.KeptUnitLemmas.{analysis_is_renamed_where_named, texts_are_renamed_where_named}
use Rattle.rename_meaning.proofs.units.units_are_renamed_where_named.Goals as goal

pub returns : goal.returns
returns c = record { texts = texts_are_renamed_where_named; analysis = analysis_is_renamed_where_named }
