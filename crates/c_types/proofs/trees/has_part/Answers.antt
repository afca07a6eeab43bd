use Rattle.std.proofs.Common.{sym, ap, ◌∙◌, arith}
use Rattle.c_types.specs.Trees.{has_at}
use Rattle.c_types.proofs.ChildWalks.{from_child-end, asked-yes, asked-no}
use Rattle.c_types.proofs.trees.has_part.Goals as goal

pub returns-then-has_part_at : goal.returns-then-has_part_at
returns-then-has_part_at c = asked-yes _ _ _ _ c.children.invariant c.has_part_at.ensures c.if-has_part_at.true

pub children-preserved : goal.children-preserved
children-preserved c = asked-no _ _ _ _ c.children.invariant c.has_part_at.ensures c.if-has_part_at.false

pub returns : goal.returns
returns c =
    sym (sym c.children.invariant
    ∙ ap (has_at c.args.production c.args.alternative) (from_child-end c.args.tree.now.under c.children.k (omega (arith, c.children-test.false, c.len-count.ensures))))
