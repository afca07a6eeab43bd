use Rattle.unit_laws.proofs.SpellingLemmas.{files_are_spelled, unit_tokens_are_spelled}
use Rattle.unit_laws.proofs.units.unit_tokens_are_spelled.Goals as goal

pub returns : goal.returns
returns c = record { files = files_are_spelled; spelled = unit_tokens_are_spelled }
