use Rattle.std.proofs.Common.{◌≡◌, ◌+◌, ◌∙◌, sym, ap, refl, arith}
use Rattle.c_types.specs.Children.{from_child, with_part}
use Rattle.c_types.specs.declared.trees.Part.{Part}
use Rattle.c_types.proofs.ChildWalks.{from_child-end}
use Rattle.trim_plan.specs.Left.{moved}
use Rattle.trim_plan.proofs.ChildLemmas.{moved-step, moved-all, token-moved, node-moved}
use Rattle.trim_plan.proofs.trees.+moved.Goals as goal

pub is_moved-children-init : goal.is_moved-children-init
is_moved-children-init t c = λ gone count is behind. behind

pub is_moved-children-preserved : goal.is_moved-children-preserved
is_moved-children-preserved t c = λ gone count is behind.
    c.children.invariant gone count is
    (moved-step gone c.args.old.now.under c.args.new.now.under c.children.k c.children.k (c.if-not-is_moved_at.ensures refl gone count is) behind)

pub is_moved-returns : goal.is_moved-returns
is_moved-returns t c = λ passed gone count is.
    let old = c.args.old.now.under in
    let new = c.args.new.now.under in
    let k = c.children.k in
    let none : from_child k new ≡ moved gone (from_child k old) =
    from_child-end new k (omega (arith, c.children-test.false, c.len-count.ensures, c.len-others.ensures, c.if-count-others.false))
    ∙ sym (ap (moved gone) (from_child-end old k (omega (arith, c.children-test.false, c.len-count.ensures)))) in
    moved-all gone count c.args.left.now c.args.old.now c.args.new.now is (c.if-not-is_root.ensures.label refl) (c.if-not-is_root.ensures.first refl)
    (c.children.invariant gone count is none)

pub is_moved_at-returns-in-Token : goal.is_moved_at-returns-in-Token
is_moved_at-returns-in-Token t c = λ passed gone count is.
    token-moved gone count c.args.left.now c.args.old.now.under c.args.new.now.under c.args.k c.args.j c.in-Token.i is c.in-Token.ensures.here
    (c.is_token_at.ensures passed)

pub is_moved_at-returns-in-Node : goal.is_moved_at-returns-in-Node
is_moved_at-returns-in-Node t c = λ passed gone count is.
    node-moved gone count c.args.left.now c.args.old.now.under c.args.new.now.under c.args.k c.args.j c.in-Node.inner is c.in-Node.ensures.here
    (c.is_moved_node.ensures passed)

pub is_moved_node-returns-in-Node : goal.is_moved_node-returns-in-Node
is_moved_node-returns-in-Node t c = λ passed. record { node = c.in-Node.other; has = c.in-Node.ensures.here; moved = c.is_moved.ensures passed }
