use Rattle.std.proofs.Common.{sym, ap, ◌∙◌, arith}
use Rattle.gnu_bind.specs.Senses.{declares_labels}
use Rattle.c_types.proofs.ChildWalks.{from_child-end, asked-yes, asked-no}
use Rattle.gnu_bind.proofs.senses.declares_labels.Goals as goal

pub returns-then-is_labelling_at : goal.returns-then-is_labelling_at
returns-then-is_labelling_at c = asked-yes _ _ _ _ c.children.invariant c.is_labelling_at.ensures c.if-is_labelling_at.true

pub children-preserved : goal.children-preserved
children-preserved c = asked-no _ _ _ _ c.children.invariant c.is_labelling_at.ensures c.if-is_labelling_at.false

pub returns : goal.returns
returns c =
    sym (sym c.children.invariant
    ∙ ap declares_labels (from_child-end c.args.tree.now.under c.children.k (omega (arith, c.children-test.false, c.len-count.ensures))))
