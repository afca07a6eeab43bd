use Rattle.std.proofs.Common.{arith}
use Rattle.c_types.proofs.ChildWalks.{from_child-end}
use Rattle.trim_rules.proofs.TestLemmas.{told_true, told_false}
use Rattle.trim_rules.specs.Walks.{IsOver, IsBefore}
use Rattle.trim_rules.proofs.DefiningLemmas.{past-next, over-end}
use Rattle.trim_rules.proofs.defining.child_over.Goals as goal

pub returns-then-is_over-clause-over : goal.returns-then-is_over-clause-over
returns-then-is_over-clause-over c =
    told_true c.is_over.result (IsOver c.args.tree.now.under c.children.child c.args.k) (IsBefore c.args.tree.now.under c.children.child c.args.k) c.if-is_over.true c.is_over.ensures

pub children-preserved : goal.children-preserved
children-preserved c =
    past-next c.args.tree.now.under c.children.child c.args.k c.children.invariant
    (told_false c.is_over.result (IsOver c.args.tree.now.under c.children.child c.args.k) (IsBefore c.args.tree.now.under c.children.child c.args.k) c.if-is_over.false c.is_over.ensures)

pub returns-clause-over : goal.returns-clause-over
returns-clause-over c =
    over-end c.args.tree.now.under c.children.child c.args.k
    (from_child-end c.args.tree.now.under c.children.child (omega (arith, c.children-test.false, c.len-count.ensures)))
