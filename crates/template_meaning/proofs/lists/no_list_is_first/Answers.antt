use Rattle.template_meaning.proofs.UnitCut.{no_list_is_first}
use Rattle.template_meaning.proofs.lists.no_list_is_first.Goals as goal

pub returns : goal.returns
returns c = no_list_is_first c.read_lists_stand_in_order.ensures.parameters
