use Rattle.same_readings.proofs.NameLemmas.{bindings_are_one}
use Rattle.same_readings.proofs.laws.same_bindings_are_one.Goals as goal

pub returns : goal.returns
returns c = bindings_are_one
