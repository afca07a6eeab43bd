use Rattle.std.proofs.Common.{ap, arith}
use Rattle.c_types.proofs.ChildWalks.{from_child-end}
use Rattle.template_meaning.specs.Matched.{node_count}
use Rattle.template_plan.proofs.trees.node_count.Goals as goal

pub children-preserved : goal.children-preserved
children-preserved c =
    (omega (arith, c.nodes_at-more.ensures.nodes, c.children.invariant.0), omega (arith, c.nodes_at-more.ensures.few, c.children.invariant.1))

pub returns : goal.returns
returns c =
    let past = ap node_count (from_child-end c.args.tree.now.under c.children.k (omega (arith, c.children-test.false, c.len-count.ensures))) in
    omega (arith, past, c.children.invariant.0)
