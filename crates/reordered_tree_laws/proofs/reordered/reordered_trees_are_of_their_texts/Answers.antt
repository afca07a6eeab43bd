use Rattle.reordered_tree_laws.proofs.SameForms.{arranged_leaves, tree_of_text}
use Rattle.reordered_tree_laws.proofs.reordered.reordered_trees_are_of_their_texts.Goals as goal

pub returns-clause-arranged : goal.returns-clause-arranged
returns-clause-arranged c = arranged_leaves

pub returns-clause-texts : goal.returns-clause-texts
returns-clause-texts c = tree_of_text
