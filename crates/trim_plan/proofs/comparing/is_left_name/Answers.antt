use Rattle.std.proofs.Common.{sym}
use Rattle.trim_plan.proofs.CompareLemmas.{name-left}
use Rattle.trim_plan.proofs.comparing.is_left_name.Goals as goal

pub returns-in-Some : goal.returns-in-Some
returns-in-Some c = λ passed gone count is.
    name-left gone count c.args.left.now c.args.old.now.names c.args.new.now.names c.args.k c.in-Some.place is (sym c.in-Some.ensures)
    (c.is_left_at.ensures passed gone count is)
