use Rattle.std.proofs.Common.{None, Some, sym, ap, ◌∙◌, arith}
use Rattle.c99_tree.specs.Tree.{leaf, inner}
use Rattle.c99_tree.specs.Children.{shown}
use Rattle.c_types.proofs.ChildWalks.{part-here, end-step, from_child-end, part_at-none, part_at-falls}
use Rattle.c_types.proofs.trees.child_at.Goals as goal

pub returns-then-k-count-clause-here : goal.returns-then-k-count-clause-here
returns-then-k-count-clause-here c = end-step c.args.tree.now.under c.args.k (omega (arith, c.len-count.ensures, c.if-k-count.true))

pub returns-then-k-count-clause-below : goal.returns-then-k-count-clause-below
returns-then-k-count-clause-below c = from_child-end c.args.tree.now.under c.args.k (omega (arith, c.len-count.ensures, c.if-k-count.true))

pub returns-in-Some-Token-clause-here : goal.returns-in-Some-Token-clause-here
returns-in-Some-Token-clause-here c =
    part-here c.args.tree.now.under c.args.k (Some (leaf c.in-Some-Token.index))
    (sym c.in-Some-Token.ensures ∙ ap (λ child. Some (shown child)) c.in-Some-Token.field-0-is)

pub returns-in-Some-Node-clause-here : goal.returns-in-Some-Node-clause-here
returns-in-Some-Node-clause-here c =
    part-here c.args.tree.now.under c.args.k (Some (inner c.in-Some-Node.inner.now))
    (sym c.in-Some-Node.ensures ∙ ap (λ child. Some (shown child)) c.in-Some-Node.field-0-is)

pub returns-in-Some-Node-clause-below : goal.returns-in-Some-Node-clause-below
returns-in-Some-Node-clause-below c =
    part_at-falls c.args.tree.now.under c.args.k c.in-Some-Node.inner.now
    (sym c.in-Some-Node.ensures ∙ ap (λ child. Some (shown child)) c.in-Some-Node.field-0-is)

pub returns-in-None-clause-here : goal.returns-in-None-clause-here
returns-in-None-clause-here c = part-here c.args.tree.now.under c.args.k None (sym c.in-None.ensures)

pub returns-in-None-clause-below : goal.returns-in-None-clause-below
returns-in-None-clause-below c = part_at-none c.args.tree.now.under c.args.k (sym c.in-None.ensures)
