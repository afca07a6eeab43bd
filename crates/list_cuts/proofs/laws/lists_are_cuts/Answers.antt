use Rattle.list_cuts.proofs.CutOfLemmas.{lists-as-cuts}
use Rattle.list_cuts.proofs.laws.lists_are_cuts.Goals as goal

pub returns : goal.returns
returns g c = lists-as-cuts
