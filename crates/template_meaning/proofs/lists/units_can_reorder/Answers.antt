use Rattle.template_meaning.proofs.CanReorder.{units_can_reorder}
use Rattle.template_meaning.proofs.lists.units_can_reorder.Goals as goal

pub returns : goal.returns
returns c = units_can_reorder c.read_lists_stand_in_order.ensures.parameters c.identifiers_are_told.ensures
