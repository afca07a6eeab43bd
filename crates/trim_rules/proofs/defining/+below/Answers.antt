use Rattle.std.proofs.Common.{sym, ap, ◌∙◌, arith}
use Rattle.c_types.proofs.ChildWalks.{from_child-end, asked-yes, asked-no}
use Rattle.trim_rules.specs.Defining.{has_below}
use Rattle.trim_rules.proofs.defining.+below.Goals as goal

pub has_below-returns-then-has_at : goal.has_below-returns-then-has_at
has_below-returns-then-has_at t c = asked-yes _ _ _ _ c.children.invariant c.has_at.ensures c.if-has_at.true

pub has_below-children-preserved : goal.has_below-children-preserved
has_below-children-preserved t c = asked-no _ _ _ _ c.children.invariant c.has_at.ensures c.if-has_at.false

pub has_below-returns : goal.has_below-returns
has_below-returns t c =
    sym (sym c.children.invariant
    ∙ ap (has_below c.args.production) (from_child-end c.args.tree.now.under c.children.k (omega (arith, c.children-test.false, c.len-count.ensures))))
