use Rattle.rename_meaning.proofs.LinkLemmas.{linked_stay_alike}
use Rattle.rename_meaning.proofs.premises.linked_stay_alike.Goals as goal

pub returns : goal.returns
returns c = linked_stay_alike
