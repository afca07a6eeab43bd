use Rattle.std.proofs.Common.{Some, sym, ap, ◌∙◌, arith}
use Rattle.c99_tree.specs.Children.{shown}
use Rattle.c99_read.specs.State.{name_below}
use Rattle.c99_read.proofs.ChildLemmas.{from_child-end, name_below-from, part_at-falls, named-yes, named-no}
use Rattle.c99_read.proofs.parts.+name.Goals as goal

pub name_at-name_below-requires : goal.name_at-name_below-requires
name_at-name_below-requires t c =
    let falls = part_at-falls c.args.part.now.under c.args.k c.in-Some-Node.inner.now (sym c.in-Some-Node.ensures ∙ ap (λ child. Some (shown child)) c.in-Some-Node.field-0-is) in
    (omega (arith, falls), tt)

pub name_below-returns-in-Some : goal.name_below-returns-in-Some
name_below-returns-in-Some t c =
    named-yes _ _ _ _ _ _ c.children.invariant (name_below-from c.args.part.now.label c.args.part.now.under c.children.k) c.name_at.ensures c.in-Some.is

pub name_below-children-preserved : goal.name_below-children-preserved
name_below-children-preserved t c =
    named-no _ _ _ _ _ c.children.invariant (name_below-from c.args.part.now.label c.args.part.now.under c.children.k) c.name_at.ensures c.in_default.is

pub name_below-returns : goal.name_below-returns
name_below-returns t c =
    sym (sym c.children.invariant
    ∙ ap (name_below c.args.part.now.label) (from_child-end c.args.part.now.under c.children.k (omega (arith, c.children-test.false, c.len-count.ensures))))
