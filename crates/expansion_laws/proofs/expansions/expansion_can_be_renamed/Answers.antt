use Rattle.expansion_laws.proofs.FollowsLemmas.{expansion_is_renamed}
use Rattle.expansion_laws.proofs.expansions.expansion_can_be_renamed.Goals as goal

pub returns : goal.returns
returns c = record { renames = expansion_is_renamed }
