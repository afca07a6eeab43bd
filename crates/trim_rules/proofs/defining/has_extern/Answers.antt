use Rattle.std.proofs.Common.{sym, ap, ◌∙◌, arith}
use Rattle.c_types.proofs.ChildWalks.{from_child-end, asked-yes, asked-no}
use Rattle.trim_rules.specs.Defining.{has_extern}
use Rattle.trim_rules.proofs.defining.has_extern.Goals as goal

pub returns-then-is_extern_at : goal.returns-then-is_extern_at
returns-then-is_extern_at c = asked-yes _ _ _ _ c.children.invariant c.is_extern_at.ensures c.if-is_extern_at.true

pub children-preserved : goal.children-preserved
children-preserved c = asked-no _ _ _ _ c.children.invariant c.is_extern_at.ensures c.if-is_extern_at.false

pub returns : goal.returns
returns c =
    sym (sym c.children.invariant
    ∙ ap has_extern (from_child-end c.args.tree.now.under c.children.k (omega (arith, c.children-test.false, c.len-count.ensures))))
