use Rattle.std.proofs.Common.{◌+◌, subst, sym, arith}
use Rattle.c99_tree.specs.Tree.{Forest}
use Rattle.c_types.specs.Children.{from_child}
use Rattle.template_meaning.specs.Matched.{IsNodeNumber}
use Rattle.template_plan.proofs.TreeLemmas.{first_one}
use Rattle.template_plan.proofs.trees.node_taken.Goals as goal

pub returns-then-left-le1-clause-number : goal.returns-then-left-le1-clause-number
returns-then-left-le1-clause-number c =
    let inner = c.in-Node.inner.now in
    subst (λ (f : Forest). IsNodeNumber f c.args.left inner) (sym c.in-Node.ensures.here) (first_one (from_child (c.args.k + 1) c.args.tree.now.under) inner.label inner.first inner.under c.args.left (omega (arith, c.if-left-le1.true)))

pub returns-then-left-le1-clause-below : goal.returns-then-left-le1-clause-below
returns-then-left-le1-clause-below c = c.in-Node.ensures.below
