use Rattle.expansion_laws.proofs.AlikeLemmas.{expands_alike}
use Rattle.expansion_laws.proofs.arranged.expansion_goes_alike.Goals as goal

pub returns : goal.returns
returns c = record { alike = expands_alike }
