use Rattle.std.proofs.Common.{sym}
use Rattle.template_plan.proofs.comparing.is_kept_at.Goals as goal

pub returns-in-Some : goal.returns-in-Some
returns-in-Some c = λ passed new there. record {
  had = c.in-Some.had.now;
  has = c.args.has.now;
  kept = sym c.in-Some.ensures;
  there = there;
  path = c.is_same_file.ensures.path passed;
  made = c.is_same_file.ensures.made passed;
}
