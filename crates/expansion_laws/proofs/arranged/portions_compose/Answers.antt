use Rattle.expansion_laws.proofs.PortionLemmas.{portions_compose, portions_move}
use Rattle.expansion_laws.proofs.arranged.portions_compose.Goals as goal

pub returns : goal.returns
returns c = record {
  portions = portions_compose c.expansion_goes_part_by_part.ensures.parts;
  moves = portions_move c.expansion_goes_part_by_part.ensures.parts;
}
