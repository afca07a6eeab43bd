use Rattle.expansion_laws.proofs.PartsLemmas.{expands_in_parts}
use Rattle.expansion_laws.proofs.expansions.expansion_goes_part_by_part.Goals as goal

pub returns : goal.returns
returns c = record { parts = expands_in_parts }
