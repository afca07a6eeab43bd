use Rattle.template_meaning.proofs.UnitMarks.{units_have_lists}
use Rattle.template_meaning.proofs.runs.units_have_lists.Goals as goal

pub returns : goal.returns
returns c = record { lists = units_have_lists c.read_lists_stand_in_order.ensures.parameters c.units_are_cut.ensures }
