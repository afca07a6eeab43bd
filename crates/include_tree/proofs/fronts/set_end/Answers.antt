use Rattle.std.proofs.Common.{refl, sym, subst}
use Rattle.unit_steps.specs.Below.macro_body.Sound.{AllTraced}
use Rattle.include_tree.proofs.fronts.set_end.Goals as goal

pub returns-clause-goes_on : goal.returns-clause-goes_on
returns-clause-goes_on c = record {
  able = record {
    few = c.requires.able.few;
    low = c.requires.able.low;
    little = c.requires.little;
    traced = subst AllTraced (sym c.in_ok-macros.ensures) c.requires.traced;
  };
  most = refl;
}
