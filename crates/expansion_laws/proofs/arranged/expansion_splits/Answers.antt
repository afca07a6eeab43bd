use Rattle.expansion_laws.proofs.SplitLemmas.{expansion_splits}
use Rattle.expansion_laws.proofs.arranged.expansion_splits.Goals as goal

pub returns : goal.returns
returns c = record { splits = expansion_splits }
