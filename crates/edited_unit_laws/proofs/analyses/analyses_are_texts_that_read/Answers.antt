use Rattle.edited_unit_laws.proofs.AnalysesLemmas.{analyses_have_texts, texts_have_analyses}
use Rattle.edited_unit_laws.proofs.analyses.analyses_are_texts_that_read.Goals as goal

pub returns : goal.returns
returns c = record { texts = analyses_have_texts; analyses = texts_have_analyses }
