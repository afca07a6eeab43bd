use Rattle.std.proofs.Common.{sym, ap, ◌∙◌, arith}
use Rattle.c_types.specs.Trees.{has_mod}
use Rattle.c_types.proofs.ChildWalks.{from_child-end, asked-yes, asked-no}
use Rattle.c_types.proofs.trees.+mods.Goals as goal

pub has_mod-returns-then-is_mod_at : goal.has_mod-returns-then-is_mod_at
has_mod-returns-then-is_mod_at t c = asked-yes _ _ _ _ c.specifiers.invariant c.is_mod_at.ensures c.if-is_mod_at.true

pub has_mod-specifiers-preserved : goal.has_mod-specifiers-preserved
has_mod-specifiers-preserved t c = asked-no _ _ _ _ c.specifiers.invariant c.is_mod_at.ensures c.if-is_mod_at.false

pub has_mod-returns : goal.has_mod-returns
has_mod-returns t c =
    sym (sym c.specifiers.invariant
    ∙ ap (has_mod c.args.alternative) (from_child-end c.args.tree.now.under c.specifiers.k (omega (arith, c.specifiers-test.false, c.len-count.ensures))))
