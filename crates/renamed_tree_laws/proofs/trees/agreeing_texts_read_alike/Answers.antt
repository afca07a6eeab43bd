use Rattle.renamed_tree_laws.proofs.AgreeingTexts.{agreeing_alike}
use Rattle.renamed_tree_laws.proofs.trees.agreeing_texts_read_alike.Goals as goal

pub returns : goal.returns
returns c = agreeing_alike
