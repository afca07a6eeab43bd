use Rattle.name_chains.proofs.SpellingLemmas.{no_signs}
use Rattle.name_chains.proofs.spellings.no_signs.Goals as goal

pub returns : goal.returns
returns c = no_signs 256
