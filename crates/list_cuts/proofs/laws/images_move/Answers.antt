use Rattle.list_cuts.proofs.CutLemmas.{arranged-map}
use Rattle.list_cuts.proofs.laws.images_move.Goals as goal

pub returns : goal.returns
returns g c = arranged-map
