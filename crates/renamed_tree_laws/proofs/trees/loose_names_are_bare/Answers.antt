use Rattle.renamed_tree_laws.proofs.ReadBareNames.{loose_are_bare}
use Rattle.renamed_tree_laws.proofs.trees.loose_names_are_bare.Goals as goal

pub returns : goal.returns
returns c = loose_are_bare
