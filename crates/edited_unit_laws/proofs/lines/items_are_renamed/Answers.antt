use Rattle.edited_unit_laws.proofs.ItemLemmas.{items_are_renamed}
use Rattle.edited_unit_laws.proofs.lines.items_are_renamed.Goals as goal

pub returns : goal.returns
returns c = items_are_renamed
