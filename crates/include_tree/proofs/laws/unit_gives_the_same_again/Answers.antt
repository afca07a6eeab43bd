use Rattle.include_tree.proofs.UnitAgain.{unit_gives_the_same_again}
use Rattle.include_tree.proofs.laws.unit_gives_the_same_again.Goals as goal

pub returns : goal.returns
returns c = record { again = unit_gives_the_same_again }
