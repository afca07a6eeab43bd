use Rattle.analysis.proofs.FoundTableLemmas.{tables_found}
use Rattle.analysis.proofs.tables.tables_are_found.Goals as goal

pub returns : goal.returns
returns c = tables_found
