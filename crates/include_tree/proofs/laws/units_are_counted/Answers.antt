use Rattle.include_tree.proofs.WalkLemmas.{files_lead, units_end}
use Rattle.include_tree.proofs.laws.units_are_counted.Goals as goal

pub returns : goal.returns
returns c = record { files = files_lead; units = units_end }
