use Rattle.std.proofs.Common.{sym, ap, ◌∙◌, arith}
use Rattle.c_types.proofs.ChildWalks.{from_child-end, asked-yes, asked-no}
use Rattle.scope_bind.specs.Braced.{has_list}
use Rattle.scope_bind.proofs.entering.has_list.Goals as goal

pub returns-then-is_braced_at : goal.returns-then-is_braced_at
returns-then-is_braced_at c = asked-yes _ _ _ _ c.children.invariant c.is_braced_at.ensures c.if-is_braced_at.true

pub children-preserved : goal.children-preserved
children-preserved c = asked-no _ _ _ _ c.children.invariant c.is_braced_at.ensures c.if-is_braced_at.false

pub returns : goal.returns
returns c =
    sym (sym c.children.invariant
    ∙ ap has_list (from_child-end c.args.tree.now.under c.children.k (omega (arith, c.children-test.false, c.len-count.ensures))))
