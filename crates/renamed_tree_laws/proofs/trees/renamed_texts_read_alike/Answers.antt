use Rattle.renamed_tree_laws.proofs.RenamedTrees.{renamed_alike}
use Rattle.renamed_tree_laws.proofs.trees.renamed_texts_read_alike.Goals as goal

pub returns : goal.returns
returns c = renamed_alike
