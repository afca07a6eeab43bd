use Rattle.template_meaning.proofs.FileItems.{items_stand}
use Rattle.template_meaning.proofs.runs.items_stand.Goals as goal

pub returns : goal.returns
returns c = record { items = items_stand c.tokens_may_stand.ensures c.ends_stay.ensures.tests c.read_lists_stand_in_order.ensures.parameters c.units_are_cut.ensures }
