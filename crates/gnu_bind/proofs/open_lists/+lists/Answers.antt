use Rattle.std.proofs.Common.{sym, ap, ◌∙◌, arith}
use Rattle.gnu_bind.specs.OpenLists.{open_list}
use Rattle.c_types.proofs.ChildWalks.{from_child-end}
use Rattle.gnu_bind.proofs.AloneLemmas.{told-yes, told-no}
use Rattle.gnu_bind.proofs.open_lists.+lists.Goals as goal

pub open_list-returns-in-Some : goal.open_list-returns-in-Some
open_list-returns-in-Some t c = told-yes _ _ _ _ _ c.children.invariant c.list_at.ensures c.in-Some.is

pub open_list-children-preserved : goal.open_list-children-preserved
open_list-children-preserved t c = told-no _ _ _ _ c.children.invariant c.list_at.ensures c.in_default.is

pub open_list-returns : goal.open_list-returns
open_list-returns t c =
    sym (sym c.children.invariant
    ∙ ap open_list (from_child-end c.args.tree.now.under c.children.k (omega (arith, c.children-test.false, c.len-count.ensures))))
