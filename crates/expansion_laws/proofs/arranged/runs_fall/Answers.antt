use Rattle.expansion_laws.proofs.SectionLemmas.{runs_fall}
use Rattle.expansion_laws.proofs.arranged.runs_fall.Goals as goal

pub returns : goal.returns
returns c = record { falls = runs_fall }
