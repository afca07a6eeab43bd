use Rattle.template_meaning.proofs.Clear.{units_are_clear}
use Rattle.template_meaning.proofs.lists.units_are_clear.Goals as goal

pub returns : goal.returns
returns c = units_are_clear
