use Rattle.std.proofs.Common.{sym, ap, ◌∙◌, arith}
use Rattle.gnu_bind.specs.Alone.{is_lone}
use Rattle.c_types.proofs.ChildWalks.{from_child-end}
use Rattle.gnu_bind.proofs.AloneLemmas.{answered-yes, answered-no}
use Rattle.gnu_bind.proofs.alone.is_lone.Goals as goal

pub returns-in-Some : goal.returns-in-Some
returns-in-Some c = answered-yes _ _ _ _ _ c.children.invariant c.specified_at.ensures c.in-Some.is

pub children-preserved : goal.children-preserved
children-preserved c = answered-no _ _ _ _ c.children.invariant c.specified_at.ensures c.in_default.is

pub returns : goal.returns
returns c =
    sym (sym c.children.invariant
    ∙ ap is_lone (from_child-end c.args.tree.now.under c.children.k (omega (arith, c.children-test.false, c.len-count.ensures))))
