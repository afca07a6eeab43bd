use Rattle.std.proofs.Common.{refl}
use Rattle.template_rules.proofs.names.has_prototype.Goals as goal

pub returns-in-Some : goal.returns-in-Some
returns-in-Some c = rw (← c.in-Some.ensures) c.is_prototype.ensures

pub returns-in-None : goal.returns-in-None
returns-in-None c = rw (← c.in-None.ensures) refl
