use Rattle.std.proofs.Common.{refl}
use Rattle.template_plan.proofs.second.add_new.Goals as goal

pub add-requires : goal.add-requires
add-requires c = rw (← c.in-None.ensures) refl

pub returns-in_ok-add-in-None : goal.returns-in_ok-add-in-None
returns-in_ok-add-in-None c = rw c.in_ok-add-in-None.ensures.ok refl
