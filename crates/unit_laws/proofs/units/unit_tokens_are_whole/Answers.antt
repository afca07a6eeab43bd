use Rattle.unit_laws.proofs.TokenLemmas.{unit_tokens_are_whole}
use Rattle.unit_laws.proofs.units.unit_tokens_are_whole.Goals as goal

pub returns : goal.returns
returns c = record { whole = unit_tokens_are_whole }
