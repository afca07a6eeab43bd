use Rattle.std.proofs.Common.{◌∙◌, sym, arith}
use Rattle.trim_plan.proofs.comparing.is_trimmed.Goals as goal

pub are_trimmed-requires : goal.are_trimmed-requires
are_trimmed-requires c = omega (arith, c.units-count.ensures, c.units-others.ensures, c.if-count-others.false)

pub returns : goal.returns
returns c = λ passed. record {
  many = omega (arith, c.units-count.ensures, c.units-others.ensures, c.if-count-others.false);
  units = c.in_ok-same.ensures passed;
  asked = c.in_ok-asked.ensures c.if-not-asked.false;
}
