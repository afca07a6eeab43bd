use Rattle.expansion_laws.proofs.PiecesLemmas.{tokens_are_whole}
use Rattle.expansion_laws.proofs.expansions.expanded_tokens_are_whole.Goals as goal

pub returns : goal.returns
returns c = record { whole = tokens_are_whole }
