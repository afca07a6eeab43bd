use Rattle.template_meaning.proofs.Prototypes.{declarators_have_prototypes}
use Rattle.template_meaning.proofs.lists.declarators_have_prototypes.Goals as goal

pub returns : goal.returns
returns c = declarators_have_prototypes c.read_lists_stand_in_order.ensures.parameters c.identifiers_are_told.ensures
