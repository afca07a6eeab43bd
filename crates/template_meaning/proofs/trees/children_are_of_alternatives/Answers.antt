use Rattle.template_meaning.proofs.Children.{children_of_alternatives}
use Rattle.template_meaning.proofs.trees.children_are_of_alternatives.Goals as goal

pub returns : goal.returns
returns c = children_of_alternatives
