use Rattle.std.proofs.Common.{refl, sym}
use Rattle.trim_plan.proofs.ChildLemmas.{pruned-gone, pruned-left}
use Rattle.trim_plan.proofs.trees.passed.Goals as goal

pub returns-then-is_gone_at : goal.returns-then-is_gone_at
returns-then-is_gone_at c = λ gone count is behind.
    pruned-gone gone count c.args.left.now is c.args.old.now.under c.args.new.now.under c.args.k c.args.j (sym c.if-is_gone_at.ensures) behind

pub returns : goal.returns
returns c = λ gone count is behind.
    pruned-left gone count c.args.left.now is c.args.old.now.under c.args.new.now.under c.args.k c.args.j (sym c.if-is_gone_at.ensures)
    (c.if-not-is_moved_at.ensures refl gone count is) behind
