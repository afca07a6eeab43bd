use Rattle.edited_unit_laws.proofs.AloneLemmas.{unit_alone_is_renamed, one_text_is_renamed}
use Rattle.edited_unit_laws.proofs.analyses.units_alone_are_renamed.Goals as goal

pub returns : goal.returns
returns c = record { unit = unit_alone_is_renamed; text = one_text_is_renamed }
