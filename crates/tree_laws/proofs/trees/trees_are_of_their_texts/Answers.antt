use Rattle.tree_laws.proofs.OfTexts.{trees_by_dialect, plain_trees_of_texts}
use Rattle.tree_laws.proofs.trees.trees_are_of_their_texts.Goals as goal

pub returns : goal.returns
returns c = record { trees = trees_by_dialect; plain = plain_trees_of_texts }
