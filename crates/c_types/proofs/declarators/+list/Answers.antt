use Rattle.std.proofs.Common.{sym, ap, ◌∙◌, arith}
use Rattle.c_types.specs.Trees.{first_list}
use Rattle.c_types.proofs.ChildWalks.{from_child-end}
use Rattle.c_types.proofs.FrontLemmas.{or-yes, or-no}
use Rattle.c_types.proofs.declarators.+list.Goals as goal

pub first_list-returns-in-Some : goal.first_list-returns-in-Some
first_list-returns-in-Some t c = or-yes _ _ _ _ _ c.parts.invariant c.list_at.ensures c.in-Some.is

pub first_list-parts-preserved : goal.first_list-parts-preserved
first_list-parts-preserved t c = or-no _ _ _ _ c.parts.invariant c.list_at.ensures c.in_default.is

pub first_list-returns : goal.first_list-returns
first_list-returns t c =
    sym (sym c.parts.invariant
    ∙ ap first_list (from_child-end c.args.declarator.now.under c.parts.k (omega (arith, c.parts-test.false, c.len-count.ensures))))
