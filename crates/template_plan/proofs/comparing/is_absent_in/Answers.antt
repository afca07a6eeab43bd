use Rattle.std.proofs.Common.{sym}
use Rattle.template_plan.proofs.comparing.is_absent_in.Goals as goal

pub returns-in-Some : goal.returns-in-Some
returns-in-Some c = λ passed. (c.in-Some.path.now, c.is_absent_at.ensures passed, sym c.in-Some.ensures)
