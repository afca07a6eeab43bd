use Rattle.unit_laws.proofs.UseLemmas.{uses_are_linked}
use Rattle.unit_laws.proofs.names.uses_are_linked.Goals as goal

pub returns : goal.returns
returns c = record { uses = uses_are_linked }
