use Rattle.template_meaning.proofs.Again.{lists_stand_in_each}
use Rattle.template_meaning.proofs.lists.lists_stand_in_each.Goals as goal

pub returns : goal.returns
returns c = lists_stand_in_each
