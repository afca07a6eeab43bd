use Rattle.std.proofs.Common.{sym, ap, ◌∙◌, arith}
use Rattle.gnu_bind.specs.Alone.{has_other}
use Rattle.c_types.proofs.ChildWalks.{from_child-end, asked-yes, asked-no}
use Rattle.gnu_bind.proofs.alone.has_other_behind.Goals as goal

pub returns-then-is_other_at : goal.returns-then-is_other_at
returns-then-is_other_at c = asked-yes _ _ _ _ c.children.invariant c.is_other_at.ensures c.if-is_other_at.true

pub children-preserved : goal.children-preserved
children-preserved c = asked-no _ _ _ _ c.children.invariant c.is_other_at.ensures c.if-is_other_at.false

pub returns : goal.returns
returns c =
    sym (sym c.children.invariant
    ∙ ap has_other (from_child-end c.args.tree.now.under c.children.k (omega (arith, c.children-test.false, c.len-count.ensures))))
