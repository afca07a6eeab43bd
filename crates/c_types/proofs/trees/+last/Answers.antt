use Rattle.std.proofs.Common.{◌-◌, ap, arith}
use Rattle.c_types.specs.Trees.{last_token}
use Rattle.c_types.proofs.ChildWalks.{from_child-end, last_found, last_passed}
use Rattle.c_types.proofs.trees.+last.Goals as goal

pub last_below-children-init : goal.last_below-children-init
last_below-children-init t c before =
    ap (λ f. last_token f before) (from_child-end c.args.tree.now.under c.len-k.result (omega (arith, c.len-k.ensures)))

pub last_below-returns-in-Some : goal.last_below-returns-in-Some
last_below-returns-in-Some t c before =
    last_found c.args.tree.now.under (c.children.k - 1) c.children.k c.last_at.result (omega (arith, c.children-test.true)) c.last_at.ensures
    c.children.invariant c.in-Some.index c.in-Some.is before

pub last_below-children-preserved : goal.last_below-children-preserved
last_below-children-preserved t c before =
    last_passed c.args.tree.now.under (c.children.k - 1) c.children.k c.last_at.result (omega (arith, c.children-test.true)) c.last_at.ensures
    c.children.invariant c.in_default.is before
