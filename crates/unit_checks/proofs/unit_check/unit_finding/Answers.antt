use Rattle.unit_checks.proofs.HeldLemmas.{held_all}
use Rattle.unit_checks.proofs.unit_check.unit_finding.Goals as goal

pub returns-in-Err-clause-answer : goal.returns-in-Err-clause-answer
returns-in-Err-clause-answer g c = held_all (g.F.Files.told c.args.files.now).held (λ source. Unit {0}) (λ source. tt)
