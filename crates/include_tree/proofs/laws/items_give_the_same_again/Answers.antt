use Rattle.include_tree.proofs.AgainLemmas.{items_give_the_same_again}
use Rattle.include_tree.proofs.laws.items_give_the_same_again.Goals as goal

pub returns : goal.returns
returns c = record { again = items_give_the_same_again }
