use Rattle.std.proofs.Common.{sym, ap, ◌∙◌, arith}
use Rattle.c_types.specs.Trees.{has_untagged}
use Rattle.c_types.proofs.ChildWalks.{from_child-end, asked-yes, asked-no}
use Rattle.c_types.proofs.trees.has_untagged.Goals as goal

pub returns-then-has_untagged_at : goal.returns-then-has_untagged_at
returns-then-has_untagged_at c = asked-yes _ _ _ _ c.children.invariant c.has_untagged_at.ensures c.if-has_untagged_at.true

pub children-preserved : goal.children-preserved
children-preserved c = asked-no _ _ _ _ c.children.invariant c.has_untagged_at.ensures c.if-has_untagged_at.false

pub returns : goal.returns
returns c =
    sym (sym c.children.invariant
    ∙ ap has_untagged (from_child-end c.args.tree.now.under c.children.k (omega (arith, c.children-test.false, c.len-count.ensures))))
