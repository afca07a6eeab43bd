use Rattle.unit_laws.proofs.TestLemmas.{unit_keeps_tests}
use Rattle.unit_laws.proofs.units.unit_keeps_tests.Goals as goal

pub returns : goal.returns
returns c = record { tests = unit_keeps_tests }
