use Rattle.std.proofs.Common.{sym, subst}
use Rattle.unit_steps.specs.Below.macro_body.Sound.{AllTraced}
use Rattle.include_tree.proofs.fronts.Front.of.Goals as goal

pub returns-clause-traced : goal.returns-clause-traced
returns-clause-traced c = subst AllTraced (sym c.in_ok-macros.ensures) c.requires.able.traced
