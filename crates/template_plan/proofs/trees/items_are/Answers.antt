use Rattle.std.proofs.Common.{refl, subst, sym, arith}
use Rattle.c_types.proofs.ChildWalks.{from_child-end}
use Rattle.template_meaning.specs.Matched.{ItemsAre}
use Rattle.template_plan.proofs.trees.items_are.Goals as goal

pub children-init : goal.children-init
children-init c = λ all. all

pub children-preserved : goal.children-preserved
children-preserved c = λ behind. c.children.invariant (c.if-not-has_count_at.ensures refl behind)

pub returns : goal.returns
returns c = λ passed.
    c.children.invariant (subst (ItemsAre c.args.n) (sym (from_child-end c.args.tree.now.under c.children.k (omega (arith, c.children-test.false, c.len-count.ensures)))) tt)
