use Rattle.expansion_laws.proofs.OriginLemmas.{tokens_come_from_somewhere}
use Rattle.expansion_laws.proofs.expansions.expanded_tokens_come_from_somewhere.Goals as goal

pub returns : goal.returns
returns c = record { tokens = tokens_come_from_somewhere }
