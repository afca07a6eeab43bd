use Rattle.std.proofs.Common.{refl}
use Rattle.template_rules.proofs.counting.parameter_count.Goals as goal

pub returns-in-Some : goal.returns-in-Some
returns-in-Some c = rw (← c.in-Some.ensures) (record { answer = refl })

pub returns-in-None : goal.returns-in-None
returns-in-None c = rw (← c.in-None.ensures) (record { answer = refl })
