use Rattle.std.proofs.Common.{sym, ap, ◌∙◌, arith}
use Rattle.c_types.specs.Trees.{has_node}
use Rattle.c_types.proofs.ChildWalks.{from_child-end, asked-yes, asked-no}
use Rattle.c_types.proofs.trees.has_node.Goals as goal

pub returns-then-is_node_at : goal.returns-then-is_node_at
returns-then-is_node_at c = asked-yes _ _ _ _ c.children.invariant c.is_node_at.ensures c.if-is_node_at.true

pub children-preserved : goal.children-preserved
children-preserved c = asked-no _ _ _ _ c.children.invariant c.is_node_at.ensures c.if-is_node_at.false

pub returns : goal.returns
returns c =
    sym (sym c.children.invariant
    ∙ ap (has_node c.args.production) (from_child-end c.args.tree.now.under c.children.k (omega (arith, c.children-test.false, c.len-count.ensures))))
