use Rattle.std.proofs.Common.{sym, ap, ◌∙◌, arith}
use Rattle.c_types.specs.Trees.{name_below}
use Rattle.c_types.proofs.ChildWalks.{from_child-end}
use Rattle.c_types.proofs.FrontLemmas.{found-yes, found-no}
use Rattle.c_types.proofs.declarators.+name.Goals as goal

pub name_below-returns-in-Some : goal.name_below-returns-in-Some
name_below-returns-in-Some t c = found-yes _ _ _ _ _ c.children.invariant c.name_at.ensures c.in-Some.is

pub name_below-children-preserved : goal.name_below-children-preserved
name_below-children-preserved t c = found-no _ _ _ _ c.children.invariant c.name_at.ensures c.in_default.is

pub name_below-returns : goal.name_below-returns
name_below-returns t c =
    sym (sym c.children.invariant
    ∙ ap (name_below c.args.part.now.label) (from_child-end c.args.part.now.under c.children.k (omega (arith, c.children-test.false, c.len-count.ensures))))
