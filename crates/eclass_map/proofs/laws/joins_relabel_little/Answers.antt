use Rattle.eclass_map.proofs.HistoryFacts.{joins_relabel_little}
use Rattle.eclass_map.proofs.laws.joins_relabel_little.Goals as goal

pub returns : goal.returns
returns c = joins_relabel_little
