use Rattle.rename_meaning.proofs.ApartLemmas.{others_stay_apart}
use Rattle.rename_meaning.proofs.premises.others_stay_apart.Goals as goal

pub returns : goal.returns
returns c = others_stay_apart
