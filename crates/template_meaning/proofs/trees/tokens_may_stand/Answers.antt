use Rattle.template_meaning.proofs.Ending.{tokens_may_stand}
use Rattle.template_meaning.proofs.trees.tokens_may_stand.Goals as goal

pub returns : goal.returns
returns c = tokens_may_stand
