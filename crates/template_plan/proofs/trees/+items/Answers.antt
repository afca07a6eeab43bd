use Rattle.std.proofs.Common.{refl, subst, sym, arith}
use Rattle.c_types.proofs.ChildWalks.{from_child-end}
use Rattle.template_meaning.specs.Matched.{EachHas}
use Rattle.template_plan.proofs.TreeLemmas.{node_has, token_has}
use Rattle.template_plan.proofs.trees.+items.Goals as goal

pub have_items-children-init : goal.have_items-children-init
have_items-children-init t c = λ all. all

pub have_items-children-preserved : goal.have_items-children-preserved
have_items-children-preserved t c = λ behind. c.children.invariant (c.if-not-have_items_at.ensures refl behind)

pub have_items-returns : goal.have_items-returns
have_items-returns t c = λ passed.
    c.children.invariant
    (subst (EachHas c.args.n c.args.begins.now) (sym (from_child-end c.args.tree.now.under c.children.k (omega (arith, c.children-test.false, c.len-count.ensures)))) tt)

pub have_items_at-returns-in-End : goal.have_items_at-returns-in-End
have_items_at-returns-in-End t c = λ passed behind. subst (EachHas c.args.n c.args.begins.now) (sym c.in-End.ensures.here) behind

pub have_items_at-returns-in-Token : goal.have_items_at-returns-in-Token
have_items_at-returns-in-Token t c = λ passed behind. token_has c.args.n c.args.begins.now _ _ _ c.in-Token.ensures.here behind

pub have_items_at-returns-else-not-has_items : goal.have_items_at-returns-else-not-has_items
have_items_at-returns-else-not-has_items t c = λ passed behind.
    node_has c.args.n c.args.begins.now _ _ _ _ _ c.in-Node.ensures.here (c.if-not-has_items.ensures refl) (c.have_items.ensures passed) behind
