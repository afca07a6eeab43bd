use Rattle.template_meaning.proofs.PathsStanding.{files_stand_in_order}
use Rattle.template_meaning.proofs.lists.files_stand_in_order.Goals as goal

pub returns : goal.returns
returns c = files_stand_in_order c.paths_stand.ensures.lists c.paths_stand.ensures.stay
