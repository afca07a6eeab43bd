use Rattle.rename_meaning.proofs.RefusalLemmas as refusals
use Rattle.rename_meaning.proofs.sources.refusals_are_one.Goals as goal

pub returns : goal.returns
returns c = refusals.refusals_are_one
