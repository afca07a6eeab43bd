use Rattle.expansion_laws.proofs.CutLemmas.{runs_have_cuts}
use Rattle.expansion_laws.proofs.OneCutLemmas.{cuts_are_one}
use Rattle.expansion_laws.proofs.arranged.runs_have_cuts.Goals as goal

pub returns : goal.returns
returns c = record { cuts = runs_have_cuts; one = cuts_are_one }
