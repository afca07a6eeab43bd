use Rattle.template_meaning.proofs.Top.{orders_keep_meaning, plans_keep_meaning}
use Rattle.template_meaning.proofs.runs.orders_keep_meaning.Goals as goal

pub returns-clause-orders : goal.returns-clause-orders
returns-clause-orders c =
    orders_keep_meaning c.workspaces_are_reordered.ensures.all c.read_names_stand_in_the_text.ensures.names c.read_lists_stand_in_order.ensures.parameters
    c.units_go_on.ensures c.accepted_lists_have_places.ensures c.paths_stand_once.ensures

pub returns-clause-plans : goal.returns-clause-plans
returns-clause-plans c =
    plans_keep_meaning c.workspaces_are_reordered.ensures.all c.read_names_stand_in_the_text.ensures.names c.read_lists_stand_in_order.ensures.parameters
    c.units_go_on.ensures c.accepted_lists_have_places.ensures c.paths_stand_once.ensures
