use Rattle.std.proofs.Common.{sym, ap, ◌∙◌, arith}
use Rattle.c_types.specs.Trees.{is_anonymous}
use Rattle.c_types.proofs.ChildWalks.{from_child-end, asked-yes, asked-no}
use Rattle.c_types.proofs.trees.is_anonymous.Goals as goal

pub returns-then-is_anonymous_at : goal.returns-then-is_anonymous_at
returns-then-is_anonymous_at c = asked-yes _ _ _ _ c.children.invariant c.is_anonymous_at.ensures c.if-is_anonymous_at.true

pub children-preserved : goal.children-preserved
children-preserved c = asked-no _ _ _ _ c.children.invariant c.is_anonymous_at.ensures c.if-is_anonymous_at.false

pub returns : goal.returns
returns c =
    sym (sym c.children.invariant
    ∙ ap is_anonymous (from_child-end c.args.tree.now.under c.children.k (omega (arith, c.children-test.false, c.len-count.ensures))))
