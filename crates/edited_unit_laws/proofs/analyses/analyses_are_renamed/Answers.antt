use Rattle.edited_unit_laws.proofs.AnalysesLemmas.{units_are_renamed, analysis_is_renamed}
use Rattle.edited_unit_laws.proofs.analyses.analyses_are_renamed.Goals as goal

pub returns : goal.returns
returns c = record { units = units_are_renamed; all = analysis_is_renamed }
