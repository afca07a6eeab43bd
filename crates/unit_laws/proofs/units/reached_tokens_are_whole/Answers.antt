use Rattle.unit_laws.proofs.ReachedLemmas.{reached_tokens_are_whole}
use Rattle.unit_laws.proofs.units.reached_tokens_are_whole.Goals as goal

pub returns : goal.returns
returns c = record { whole = reached_tokens_are_whole }
