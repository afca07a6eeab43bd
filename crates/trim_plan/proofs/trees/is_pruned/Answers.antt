use Rattle.std.proofs.lemmas.Bool.{eqb-true}
use Rattle.std.proofs.Common.{refl, ◌≡◌, ◌∙◌, sym, ap, arith}
use Rattle.c_types.specs.Children.{from_child}
use Rattle.c_types.proofs.ChildWalks.{from_child-end}
use Rattle.trim_plan.specs.Children.{ArePruned}
use Rattle.trim_plan.specs.Left.{moved, left}
use Rattle.trim_plan.proofs.ChildLemmas.{pruned-all}
use Rattle.trim_plan.proofs.trees.is_pruned.Goals as goal

pub children-init : goal.children-init
children-init c = λ gone count is behind. behind

pub children-preserved : goal.children-preserved
children-preserved c = λ gone count is behind. c.children.invariant gone count is (c.in-Some.ensures gone count is behind)

pub returns : goal.returns
returns c = λ passed gone count is.
    let old = c.args.old.now.under in
    let new = c.args.new.now.under in
    let none : ArePruned gone old new c.children.k c.children.j =
    from_child-end new c.children.j (omega (arith, c.len-others.ensures, eqb-true c.children.j c.len-others.result passed))
    ∙ sym (ap (λ f. moved gone (left gone f)) (from_child-end old c.children.k (omega (arith, c.children-test.false, c.len-count.ensures)))) in
    pruned-all gone count c.args.left.now c.args.old.now c.args.new.now is (c.if-not-is_root.ensures.label refl) (c.if-not-is_root.ensures.first refl)
    (c.children.invariant gone count is none)
