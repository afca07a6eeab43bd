use Rattle.same_readings.proofs.TreeLemmas.{trees_are_one}
use Rattle.same_readings.proofs.laws.same_trees_are_one.Goals as goal

pub returns : goal.returns
returns c = trees_are_one
