use Rattle.rename_meaning.proofs.PlanLemmas as plans
use Rattle.rename_meaning.proofs.sources.plans_keep_meaning.Goals as goal

pub returns : goal.returns
returns c = plans.plans_keep_meaning
