use Rattle.edited_unit_laws.proofs.ReorderedAnalysesLemmas.{units_are, workspace_is}
use Rattle.edited_unit_laws.proofs.reordered.analyses_are_reordered.Goals as goal

pub returns : goal.returns
returns c =
    let units = units_are c.analyses_are_texts_that_read.ensures.texts c.analyses_are_texts_that_read.ensures.analyses c.units_are_reordered.ensures.reordered in
    record { units = units; all = workspace_is units }
