use Rattle.tree_laws.proofs.OrderedNames.{parameter_lists_ordered, argument_lists_ordered}
use Rattle.tree_laws.proofs.bound.lists_stand_in_order.Goals as goal

pub returns : goal.returns
returns c = record { parameters = parameter_lists_ordered; arguments = argument_lists_ordered }
