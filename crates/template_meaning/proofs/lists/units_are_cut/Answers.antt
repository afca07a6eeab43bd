use Rattle.template_meaning.proofs.UnitCut.{units_are_cut}
use Rattle.template_meaning.proofs.lists.units_are_cut.Goals as goal

pub returns : goal.returns
returns c = units_are_cut c.read_lists_stand_in_order.ensures.parameters
