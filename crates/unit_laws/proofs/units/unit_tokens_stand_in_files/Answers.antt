use Rattle.unit_laws.proofs.TokenLemmas.{unit_tokens_stand_in_files}
use Rattle.unit_laws.proofs.units.unit_tokens_stand_in_files.Goals as goal

pub returns : goal.returns
returns c = record { places = unit_tokens_stand_in_files }
