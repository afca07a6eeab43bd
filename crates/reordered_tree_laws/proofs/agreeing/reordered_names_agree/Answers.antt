use Rattle.reordered_tree_laws.proofs.TextsAgree.{reordered_names_agree}
use Rattle.reordered_tree_laws.proofs.agreeing.reordered_names_agree.Goals as goal

pub returns : goal.returns
returns c = reordered_names_agree
