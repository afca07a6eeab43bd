use Rattle.template_meaning.proofs.RefusalsOne as refusals
use Rattle.template_meaning.proofs.runs.refusals_are_one.Goals as goal

pub returns : goal.returns
returns c = refusals.refusals_are_one
