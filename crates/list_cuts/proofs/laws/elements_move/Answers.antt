use Rattle.list_cuts.proofs.CutLemmas.{arranged_permutes, arranged-append}
use Rattle.list_cuts.proofs.laws.elements_move.Goals as goal

pub returns : goal.returns
returns g c = record { moves = arranged_permutes; stays = arranged-append }
