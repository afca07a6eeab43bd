use Rattle.std.proofs.Common.{◌≡◌, ◌+◌, ◌∙◌, Some, length, slice_get, sym, ap, refl, arith, ℕ}
use Rattle.std.proofs.lemmas.Option.{slice_get_read, slice_get_within}
use Rattle.c_types.specs.Children.{from_child}
use Rattle.c_types.proofs.ChildWalks.{from_child-end}
use Rattle.template_meaning.specs.Matched.{inside, items_on, turned}
use Rattle.template_meaning.proofs.TurnedTrees.{child_put, item_passed, items_end, node_turned, on_both, on_end, on_none, token_passed, token_turned}
use Rattle.template_plan.proofs.TreeLemmas.{if_so, item_put, of_some, put_listed, put_turned}
use Rattle.template_plan.proofs.trees.+turned.Goals as goal

pub is_turned-children-init : goal.is_turned-children-init
is_turned-children-init t c =
    on_none (turned c.args.order.now c.args.begins.now c.args.listed c.args.old.now.under) c.args.new.now.under c.args.perm.now.items

pub is_turned-children-preserved : goal.is_turned-children-preserved
is_turned-children-preserved t c =
    let f = λ (k : ℕ). turned c.args.order.now c.args.begins.now c.args.listed (from_child k c.args.old.now.under) in
    on_both (f 0) (f c.children.k) (f (c.children.k + 1)) c.args.new.now.under (from_child c.children.k c.args.new.now.under) (from_child (c.children.k + 1) c.args.new.now.under)
    c.args.perm.now.items c.children.perm.items _ c.children.invariant (c.in_ok-same.ensures c.if-not-same.false)

pub is_turned-returns : goal.is_turned-returns
is_turned-returns t c = λ passed.
    let f = λ (k : ℕ). turned c.args.order.now c.args.begins.now c.args.listed (from_child k c.args.old.now.under) in
    on_end (f 0) (f c.children.k) c.args.new.now.under (from_child c.children.k c.args.new.now.under) c.args.perm.now.items c.children.perm.items c.children.invariant
    (ap (turned c.args.order.now c.args.begins.now c.args.listed) (from_child-end c.args.old.now.under c.children.k (omega (arith, c.children-test.false, c.len-count.ensures))))
    (from_child-end c.args.new.now.under c.children.k (omega (arith, c.children-test.false, c.len-count.ensures, c.len-others.ensures, c.if-others-count.false)))

pub is_turned_at-returns-in-Token : goal.is_turned_at-returns-in-Token
is_turned_at-returns-in-Token t c =
    if_so c.is_token_put.result _ _
    (token_turned c.args.order.now c.args.begins.now c.args.listed c.args.old.now.under c.args.new.now.under c.args.k c.in-Token.i c.args.perm.now.items c.is_token_put.new.perm.items
    c.in-Token.ensures.here)
    c.is_token_put.ensures

pub is_turned_at-returns-in-Node : goal.is_turned_at-returns-in-Node
is_turned_at-returns-in-Node t c =
    let inner = c.in-Node.inner.now in
    if_so c.is_child_put.result _ _
    (node_turned c.args.order.now c.args.begins.now c.args.listed c.args.old.now.under c.args.new.now.under c.args.k inner.first inner.label inner.under c.args.perm.now.items
    c.is_child_put.new.perm.items c.in-Node.ensures.here)
    c.is_child_put.ensures

pub is_child_put-returns-in-Node : goal.is_child_put-returns-in-Node
is_child_put-returns-in-Node t c =
    let inner = c.args.inner.now in
    if_so c.is_put.result _ _
    (child_put c.args.new.now.under c.args.k c.in-Node.other.now inner.label (inside c.args.order.now c.args.begins.now c.args.listed inner.label inner.under) c.args.perm.now.items
    c.is_put.new.perm.items c.in-Node.ensures.here)
    c.is_put.ensures

pub is_put-returns-then-listed : goal.is_put-returns-then-listed
is_put-returns-then-listed t c =
    if_so c.is_shuffled.result _ _
    (put_listed c.args.order.now c.args.begins.now c.args.old.now c.args.new.now c.args.perm.now.items c.is_shuffled.new.perm.items
    (sym c.label-other.ensures ∙ (c.if-not-is_same_label.ensures refl ∙ c.label-label.ensures))
    (sym c.first-first.ensures ∙ c.if-not-is_next.ensures refl) c.args.listed c.if-listed.true)
    c.is_shuffled.ensures

pub is_put-returns-else-listed : goal.is_put-returns-else-listed
is_put-returns-else-listed t c =
    if_so c.is_turned.result _ _
    (put_turned c.args.order.now c.args.begins.now c.args.old.now c.args.new.now c.args.perm.now.items c.is_turned.new.perm.items
    (sym c.label-other.ensures ∙ (c.if-not-is_same_label.ensures refl ∙ c.label-label.ensures))
    (sym c.first-first.ensures ∙ c.if-not-is_next.ensures refl) c.args.listed c.is_among-among.result c.if-listed.false c.is_among-among.ensures)
    c.is_turned.ensures

pub is_shuffled-children-init : goal.is_shuffled-children-init
is_shuffled-children-init t c = on_none (items_on c.args.order.now c.args.begins.now c.args.old.now.under 0 0) c.args.new.now.under c.args.perm.now.items

pub is_shuffled-children-preserved : goal.is_shuffled-children-preserved
is_shuffled-children-preserved t c =
    let f = λ (j k : ℕ). items_on c.args.order.now c.args.begins.now c.args.old.now.under j k in
    on_both (f 0 0) (f c.children.j c.children.k) (f c.in-Some.i (c.children.k + 1)) c.args.new.now.under (from_child c.children.k c.args.new.now.under)
    (from_child (c.children.k + 1) c.args.new.now.under) c.args.perm.now.items c.children.perm.items _ c.children.invariant (of_some c.in_ok-now.now _ c.in-Some.i c.in-Some.is c.in_ok-now.ensures)

pub is_shuffled-returns : goal.is_shuffled-returns
is_shuffled-returns t c = λ passed.
    let f = λ (j k : ℕ). items_on c.args.order.now c.args.begins.now c.args.old.now.under j k in
    on_end (f 0 0) (f c.children.j c.children.k) c.args.new.now.under (from_child c.children.k c.args.new.now.under) c.args.perm.now.items c.children.perm.items c.children.invariant
    (items_end c.args.order.now c.args.begins.now c.args.old.now.under c.children.j c.children.k (omega (arith, c.children-test.false, c.len-count.ensures)))
    (from_child-end c.args.new.now.under c.children.k (omega (arith, c.children-test.false, c.len-count.ensures, c.len-others.ensures, c.if-others-count.false)))

pub passed-returns-else-not-same : goal.passed-returns-else-not-same
passed-returns-else-not-same t c =
    token_passed c.args.order.now c.args.begins.now c.args.old.now.under c.args.new.now.under c.args.j c.args.k c.in-Token.i c.args.perm.now.items c.is_token_put.new.perm.items
    c.in-Token.ensures.here (c.in_ok-same-in-Token.ensures c.if-not-same.false)

pub passed-returns-else-not-put : goal.passed-returns-else-not-put
passed-returns-else-not-put t c =
    let inner = c.in-Node.ensures.here in
    item_passed c.args.order.now c.args.begins.now c.args.old.now.under c.args.new.now.under c.args.j c.args.k _ _ _ c.args.perm.now.items c.is_item_put.new.perm.items
    inner (c.in_ok-put-in-Node.ensures.within c.if-not-put.false) (c.in_ok-put-in-Node.ensures.put c.if-not-put.false)

pub is_item_put-returns-in-Some-clause-within : goal.is_item_put-returns-in-Some-clause-within
is_item_put-returns-in-Some-clause-within t c =
    let order = c.args.order.now in
    let had : slice_get order c.args.j ≡ Some c.in-Some.number.now =
    slice_get_read order (length order) c.args.j c.in-Some.number.now refl c.in-Some.ensures.lookup.3.0 c.in-Some.ensures.lookup.1 in
    if_so c.is_number_put.result _ _ (λ put. slice_get_within order c.args.j c.in-Some.number.now had) c.is_number_put.ensures

pub is_item_put-returns-in-Some-clause-put : goal.is_item_put-returns-in-Some-clause-put
is_item_put-returns-in-Some-clause-put t c =
    let order = c.args.order.now in
    let had : slice_get order c.args.j ≡ Some c.in-Some.number.now =
    slice_get_read order (length order) c.args.j c.in-Some.number.now refl c.in-Some.ensures.lookup.3.0 c.in-Some.ensures.lookup.1 in
    if_so c.is_number_put.result _ _
    (item_put order c.args.begins.now c.args.old.now.under c.args.new.now.under c.args.k c.args.j c.in-Some.number.now c.args.perm.now.items c.is_number_put.new.perm.items had)
    c.is_number_put.ensures

pub is_number_put-returns-in-Some : goal.is_number_put-returns-in-Some
is_number_put-returns-in-Some t c = if_so c.is_child_put.result _ _ (λ put. (c.in-Some.inner.now, c.in-Some.ensures.number, put)) c.is_child_put.ensures
