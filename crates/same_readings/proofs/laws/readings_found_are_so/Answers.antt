use Rattle.same_readings.proofs.ReadingLemmas.{readings_found_are_so}
use Rattle.same_readings.proofs.laws.readings_found_are_so.Goals as goal

pub returns : goal.returns
returns c = readings_found_are_so
