use Rattle.std.proofs.Common.{◌+◌, arith}
use Rattle.c_types.specs.Children.{from_child}
use Rattle.c_types.proofs.ChildWalks.{from_child-end}
use Rattle.trim_rules.proofs.EdgeLemmas.{edges-next, edges-all}
use Rattle.trim_rules.proofs.defining.mark_all.Goals as goal

pub children-preserved : goal.children-preserved
children-preserved c =
    let tree = c.args.tree.now.under in
    let k = c.children.k in
    edges-next tree (from_child k tree) (from_child (k + 1) tree) c.args._count c.first_of.result c.children.marks.items c.mark.new.marks.items
    c.children.invariant c.first_of.ensures c.mark.ensures

pub returns : goal.returns
returns c =
    let tree = c.args.tree.now.under in
    edges-all tree (from_child c.children.k tree) c.args._count c.children.marks.items
    (from_child-end tree c.children.k (omega (arith, c.children-test.false, c.len-children.ensures))) c.children.invariant
