use Rattle.std.proofs.Common.{ℕ, ◌≡◌, sym, ap, ◌∙◌, arith}
use Rattle.c_types.specs.Children.{from_child}
use Rattle.c_types.proofs.ChildWalks.{from_child-end}
use Rattle.same_readings.specs.SameTrees.{same_forest}
use Rattle.same_readings.proofs.TreeLemmas.{passed-yes, passed-no, ended}
use Rattle.same_readings.proofs.trees.+same.Goals as goal

pub are_same-returns-then-not-is_same_at : goal.are_same-returns-then-not-is_same_at
are_same-returns-then-not-is_same_at t c = passed-yes _ _ _ _ c.children.invariant c.is_same_at.ensures c.if-not-is_same_at.true

pub are_same-children-preserved : goal.are_same-children-preserved
are_same-children-preserved t c = passed-no _ _ _ _ c.children.invariant c.is_same_at.ensures c.if-not-is_same_at.false

pub are_same-returns : goal.are_same-returns
are_same-returns t c =
    let all : c.children.k ≡ c.len-count.result = omega (arith, c.children-test.false, c.children.auto.k-end) in
    c.ends_at.ensures
    ∙ (sym (ended (from_child c.len-count.result c.args.other.now.under))
    ∙ (ap (λ f. same_forest f (from_child c.len-count.result c.args.other.now.under)) (sym (from_child-end c.args.one.now.under c.len-count.result (omega (arith, c.len-count.ensures))))
    ∙ (ap (λ n. same_forest (from_child n c.args.one.now.under) (from_child n c.args.other.now.under)) (sym all)
    ∙ c.children.invariant)))
