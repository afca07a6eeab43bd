use Rattle.template_meaning.proofs.UnitCut.{unit_lists_are_bracketed}
use Rattle.template_meaning.proofs.lists.unit_lists_are_bracketed.Goals as goal

pub returns : goal.returns
returns c = unit_lists_are_bracketed c.read_lists_stand_in_order.ensures.parameters
