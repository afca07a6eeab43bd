use Rattle.template_meaning.proofs.FitWalk.{trees_have_forms}
use Rattle.template_meaning.proofs.trees.trees_have_forms.Goals as goal

pub returns : goal.returns
returns c = trees_have_forms
