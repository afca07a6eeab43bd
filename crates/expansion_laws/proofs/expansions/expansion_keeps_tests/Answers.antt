use Rattle.expansion_laws.proofs.PassingLemmas.{tests_are_kept}
use Rattle.expansion_laws.proofs.expansions.expansion_keeps_tests.Goals as goal

pub returns : goal.returns
returns c = record { tests = tests_are_kept }
